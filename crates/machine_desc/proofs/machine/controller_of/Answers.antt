use Rattle.std.proofs.Common.{All, List, subst, sym}
use Rattle.machine_desc.specs.declared.parts.QueryPart.{QueryPart}
use Rattle.machine_desc.specs.Sound.{AreSoundQueries, IsSoundQuery}
use Rattle.machine_desc.proofs.machine.controller_of.Goals as goal

pub queries_of-requires : goal.queries_of-requires
queries_of-requires c = subst (λ (qs : List QueryPart). All IsSoundQuery qs) (sym c.into_vec.ensures) (subst AreSoundQueries c.in-Some.is c.requires)
