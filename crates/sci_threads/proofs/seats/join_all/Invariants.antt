use Rattle.std.proofs.Common.{vec_capacity, vec_len}
use Rattle.std.specs.Vec.Iter.{into_iter_items, into_iter_len}
use Rattle.sci_threads.proofs.SeatsBack.{Rejoining}
use Rattle.sci_threads.proofs.seats.join_all.Given as goal

abbrev pub invariant-loop-seat : goal.invariant-loop-seat
invariant-loop-seat l =
    Rejoining l.table.table.shared.table_id l.fn.root l.root l.fn.seats.items l.yielded (into_iter_items l.seat-iterator) (into_iter_len l.seat-iterator) l.fn.actors.items l.actors.items (vec_capacity l.actors) (vec_len l.actors)
