-- The settings are judged, then the store.
use mathlib.Core.Path.{refl, ap, ◌∙◌}
use Prim.Native.Nat.{ℕ}
use lib.Dec.{leb}
use Rattle.fop.specs.Store.{store_need}
use lib.ListN.{length}
use Rattle.sender.proofs.Starts.{start_setting, start_store, start_done}
use Rattle.sender.proofs.Sender.new.Goals as goal

pub returns-then-not-settings_hold : goal.returns-then-not-settings_hold
returns-then-not-settings_hold c =
    let a = c.args in
    start_setting a.settings a.vs a.nnr (length a.store.now) c.settings_hold.result c.settings_hold.ensures _ c.if-not-settings_hold.true refl

pub returns-then-not-suffices : goal.returns-then-not-suffices
returns-then-not-suffices c =
    let a = c.args in
    start_store a.settings a.vs a.nnr (length a.store.now) c.settings_hold.result c.settings_hold.ensures _ c.if-not-settings_hold.false
    (c.suffices.ensures ∙ ap (λ (k : ℕ). leb (store_need k 0) (length c.args.store.now)) c.from.ensures) c.if-not-suffices.true refl

pub returns : goal.returns
returns c =
    let a = c.args in
    start_done a.settings a.vs a.nnr (length a.store.now) c.settings_hold.result c.settings_hold.ensures c.start.result
    c.if-not-settings_hold.false (c.suffices.ensures ∙ ap (λ (k : ℕ). leb (store_need k 0) (length c.args.store.now)) c.from.ensures) c.if-not-suffices.false c.start.ensures
