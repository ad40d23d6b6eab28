use borrow.Author.Rules.{rules}
use mathlib.Core.Path.{refl, sym, ◌∙◌}
use native.Mathlib.Omega.{arith}
use lib.ListN.{replicate, length-set}
use Rattle.base.proofs.Lists.{store_by}
use Rattle.store.specs.Places.{places}
use Rattle.sender_octets.specs.Kept.{number_octets, pairs_from}
use Rattle.sender_octets.proofs.Pairs.{length_from, from_at, filled}
use Rattle.sender_octets.proofs.reader.lengths_in.Goals as goal

pub loop-i-init : goal.loop-i-init
loop-i-init c = (search rules, refl, refl)

pub loop-i-preserved : goal.loop-i-preserved
loop-i-preserved c =
    let o = c.args.octets.now in
    let n = length_from o number_octets places in (
      search rules,
      store_by (pairs_from o number_octets places) (replicate places 0) c.loop-i.lengths c.loop-i.i c.pair_at.result c.loop-i.invariant.1
          (c.pair_at.ensures ∙ sym (from_at o number_octets places c.loop-i.i (omega arith))) (omega arith) (omega arith),
      simp length-set (search rules),
    )

pub returns : goal.returns
returns c =
    let o = c.args.octets.now in
    filled (pairs_from o number_octets places) (replicate places 0) c.loop-i.lengths c.loop-i.i c.loop-i.invariant.1 (omega arith) (omega arith)
