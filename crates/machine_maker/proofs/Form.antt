-- The parts of a machine that is made have the form of a description's.
use Rattle.std.proofs.Common.{ℕ, inl, ◌+◌, [], refl, arith}
use Rattle.machine_desc.specs.Given.{HasCode, HaveCodes, IsEventPart, IsGiven, IsQueryPart}
use Rattle.machine_maker.specs.Maker.{code_handler, code_script, each_of, parts_of, quiet_event, script_of}
use Rattle.machine_maker.proofs.Plain.{each_op}
use Rattle.machine_maker.proofs.Rows.{all, each_row}

no_codes : HaveCodes []
no_codes = all HasCode [] tt

event_formed : (n : ℕ) → IsEventPart (quiet_event n)
event_formed n = record { listed = refl; level = tt; codes = no_codes }

query_formed : (k : ℕ) → IsQueryPart (code_handler (k + 1))
query_formed k = record { code = omega arith; codes = all HasCode (code_script (k + 1)) (tt, (tt, tt)) }

script_formed : (number size k : ℕ) → HaveCodes (script_of number size k)
script_formed number size k = all HasCode (script_of number size k) (each_op HasCode (λ f less. tt) (λ q some. some) number size k)

pub formed : (number size : ℕ) → IsGiven (parts_of number size)
formed number size = record {
  version = inl refl;
  glk = λ one. refl;
  events = all IsEventPart (each_of 8 quiet_event) (each_row IsEventPart 8 quiet_event (λ n less. event_formed n));
  queries = all IsQueryPart (each_of 8 (λ k. code_handler (k + 1))) (each_row IsQueryPart 8 (λ k. code_handler (k + 1)) (λ k less. query_formed k));
  firmware = all HaveCodes (each_of 4 (script_of number size)) (each_row HaveCodes 4 (script_of number size) (λ k less. script_formed number size k));
}
