-- Both tests are that of the lengths, of as many units as there are lengths at the most.
use mathlib.Core.Path.{◌≡◌, sym, ap, ◌∙◌}
use Prim.Native.Nat.{min}
use lib.ListN.{length}
use Rattle.sender_state.proofs.Kept.{filled_within, not_filled}
use Rattle.sender_state.proofs.lengths_hold.Goals as goal

pub returns-then-lengths_filled : goal.returns-then-lengths_filled
returns-then-lengths_filled c =
    let s = c.args.lengths.now in
    let m : c.min.result ≡ min c.args.held (length s) = c.min.ensures ∙ ap (min c.args.held) (sym c.told-lengths) in
    filled_within c.args.held c.min.result s m c.lengths_filled.ensures c.if-lengths_filled.true c.lengths_within.ensures

pub returns-else-lengths_filled : goal.returns-else-lengths_filled
returns-else-lengths_filled c =
    let s = c.args.lengths.now in
    let m : c.min.result ≡ min c.args.held (length s) = c.min.ensures ∙ ap (min c.args.held) (sym c.told-lengths) in
    not_filled c.args.held c.min.result s m c.lengths_filled.ensures c.if-lengths_filled.false
