-- A record of the first ones is put in its place, and the rest of the array stays.
use mathlib.Core.Path.{◌≡◌, sym, ap, ◌∙◌}
use mathlib.Core.List.{List, ◌++◌}
use Prim.Native.Nat.{ℕ, ◌<◌}
use lib.ListN.{take, drop, set, take-append-drop}
use lib.Seq.{take-set-lt, drop-set-lt}
use Rattle.receiver.specs.declared.Channel.{Channel}
use Rattle.channels.proofs.Channels.after.Goals as goal

set_front : (cs : List Channel) (n i : ℕ) (c : Channel) → i < n → set cs i c ≡ set (take n cs) i c ++ drop n cs
set_front cs n i c h =
    sym (take-append-drop n (set cs i c))
    ∙ ap (λ (xs : List Channel). xs ++ drop n (set cs i c)) (take-set-lt n cs i c h)
    ∙ ap (λ (xs : List Channel). set (take n cs) i c ++ xs) (drop-set-lt n cs i c h)

pub returns-then-change-lt-LARGEST_CHANNELS : goal.returns-then-change-lt-LARGEST_CHANNELS
returns-then-change-lt-LARGEST_CHANNELS c =
    let s = c.args.self in
    rw c.in-Ok.is
    (ap (λ (cs : List Channel). record { spacecraft = s.spacecraft; pool = s.pool; count = s.count; records = cs })
    (set_front s.records s.count c.in-Ok.change.place c.in-Ok.change.next c.if-change-self.true))
