use Rattle.std.proofs.Common.{◌≡◌, ◌++◌, codes, flat_map, reverse, sym, ap, ◌∙◌, append-nil, arith}
use Rattle.machine_history.specs.Values.{value}
use Rattle.machine_maker.specs.Summary.{spaced_byte}
use Rattle.run_summary.specs.Told.{bytes_of, cell_of}
use Rattle.run_summary.proofs.Lines.{longer, next_bytes, no_bytes, three_joined, with_word}
use Rattle.run_summary.proofs.summary.push_cells.Goals as goal

pub loop-offset-init : goal.loop-offset-init
loop-offset-init c = record {
  text = sym (append-nil c.push_text.new.self) ∙ ap (λ t. c.push_text.new.self ++ t) (sym (no_bytes c.args.board.now.machine (reverse c.args.board.now.entries)));
  len = omega arith;
}

pub push_spaced-requires : goal.push_spaced-requires
push_spaced-requires c =
    let word = with_word c.args.text.now c.push_text.new.self c.push_text.ensures in
    let len = c.loop-offset.invariant.len in
    let room = c.requires.room in
    let less = c.loop-offset-test.true in
    omega arith

pub loop-offset-preserved : goal.loop-offset-preserved
loop-offset-preserved c =
    let m = c.args.board.now.machine in
    let past = reverse c.args.board.now.entries in
    let k = c.loop-offset.offset in
    let same = ap spaced_byte c.cell.ensures in
    record {
      text = longer c.loop-offset.text c.push_text.new.self (flat_map spaced_byte (bytes_of m past k)) c.push_spaced.new.self (spaced_byte (value m past (cell_of k))) c.loop-offset.invariant.text
          (c.push_spaced.ensures.text ∙ ap (λ t. c.loop-offset.text ++ t) same)
          ∙ ap (λ t. c.push_text.new.self ++ t) (sym (next_bytes m past k));
      len = (let more = c.push_spaced.ensures.len in let len = c.loop-offset.invariant.len in omega arith);
    }

pub push_text-requires-2 : goal.push_text-requires-2
push_text-requires-2 c =
    let word = with_word c.args.text.now c.push_text.new.self c.push_text.ensures in
    let len = c.loop-offset.invariant.len in
    let room = c.requires.room in
    let most = c.loop-offset.auto.offset-end in
    omega arith

pub returns : goal.returns
returns c =
    let m = c.args.board.now.machine in
    let past = reverse c.args.board.now.entries in
    let most = c.loop-offset.auto.offset-end in
    let least = c.loop-offset-test.false in
    let end : c.loop-offset.offset ≡ 16 = omega arith in
    three_joined c.args.text.now (codes "cells") (flat_map spaced_byte (bytes_of m past 16)) (codes "\n") c.push_text.new.self c.loop-offset.text c.push_text-2.new.self
    c.push_text.ensures
    (c.loop-offset.invariant.text ∙ ap (λ k. c.push_text.new.self ++ flat_map spaced_byte (bytes_of m past k)) end)
    c.push_text-2.ensures
