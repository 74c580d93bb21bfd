use Rattle.std.proofs.Common.{rules}
use Rattle.lock_table.proofs.Places.{put_fixed, put_gpe}
use Rattle.lock_table.proofs.words.Bits.put.Goals as goal

pub returns-in-Fixed : goal.returns-in-Fixed
returns-in-Fixed c = λ n h. rw c.in-Fixed.is (put_fixed c.args.self.now c.in-Fixed.fixed c.bit.result c.bit.ensures n)

pub returns-in-Gpe : goal.returns-in-Gpe
returns-in-Gpe c = λ n h. rw c.in-Gpe.is (put_gpe c.args.self.now c.in-Gpe.number c.from.result c.from.ensures (search rules) n)
