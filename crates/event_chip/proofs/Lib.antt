mod PlaceBits
mod PlaceOrder
pub mod Slots
mod Touches
