-- Two runs: a channel is told the same in both, and ends with the same record, whatever events of other channels stand in either, where its own events are the same
-- and at each of them both pools have room or neither (`runs_agree`). By recursion over both runs: an event of another channel leaves its record (proofs/Isolation),
-- its own event is answered alike (proofs/Agree), and tables that hold stay so (proofs/Pool).
use mathlib.Core.Path.{◌≡◌, refl, sym, ap₂, subst, ◌∙◌}
use mathlib.Core.Bool.{true}
use mathlib.Core.List.{List, ◌∷◌}
use Prim.Native.Nat.{ℕ}
use borrow.Author.Tests.{eq-eqb, ne_eqb}
use Rattle.receiver.specs.declared.Channel.{Channel}
use Rattle.channels.specs.Table.{is_in, table_holds, record_of}
use Rattle.channels.specs.Isolation.{ours, Event, channel_of, Told, after, after_all, SameOwn, SameRuns, ended, other, other', own, told_for, RunsAgree}
use Rattle.channels.proofs.RecordLaws.{in_numbers}
use Rattle.channels.proofs.Isolation.{isolated}
use Rattle.channels.proofs.Agree.{own_alike}
use Rattle.channels.proofs.Pool.{event_kept}

module _ (spacecraft n : ℕ) where
  -- an event keeps which channels are there, and of every other channel its record
  there_after : (pool : ℕ) (cs : List Channel) (e : Event) → is_in n (after ours spacecraft pool cs e) ≡ is_in n cs
  there_after pool cs e = in_numbers n (after ours spacecraft pool cs e) cs ((isolated spacecraft pool cs).channels e)

  other_own : (pool : ℕ) (cs : List Channel) (e : Event) → (n ≡ channel_of e → ⊥) → SameOwn n (after ours spacecraft pool cs e) cs
  other_own pool cs e d = record { there = there_after pool cs e; own = (isolated spacecraft pool cs).others e n d }

  module _ (pool pool' : ℕ) where
    runs : {cs cs' : List Channel} {es es' : List Event} → SameRuns ours spacecraft pool pool' n cs es cs' es' → table_holds spacecraft pool cs ≡ true
        → table_holds spacecraft pool' cs' ≡ true → SameOwn n cs cs'
        → (told_for ours spacecraft pool n es cs ≡ told_for ours spacecraft pool' n es' cs') × SameOwn n (after_all ours spacecraft pool es cs) (after_all ours spacecraft pool' es' cs')
    runs ended f f' s = (refl, s)
    runs (other {cs} {cs'} e d x) f f' s =
        let o = other_own pool cs e d in
        let y = runs x (event_kept spacecraft pool cs e ∙ f) f' (record { there = o.there ∙ s.there; own = o.own ∙ s.own }) in
        (rw (ne_eqb n (channel_of e) d) y.0, y.1)
    runs (other' {cs} {cs'} e d x) f f' s =
        let o = other_own pool' cs' e d in
        let y = runs x f (event_kept spacecraft pool' cs' e ∙ f') (record { there = s.there ∙ sym o.there; own = s.own ∙ sym o.own }) in
        (rw (ne_eqb n (channel_of e) d) y.0, y.1)
    runs (own {cs} {cs'} e p r x) f f' s =
        let a = own_alike spacecraft pool pool' cs cs' f f' e (subst (λ (k : ℕ). SameOwn k cs cs') p s) r in
        let next : record_of n (after ours spacecraft pool cs e) ≡ record_of n (after ours spacecraft pool' cs' e) =
        subst (λ (k : ℕ). record_of k (after ours spacecraft pool cs e) ≡ record_of k (after ours spacecraft pool' cs' e)) (sym p) a.next in
        let y =
        runs x (event_kept spacecraft pool cs e ∙ f) (event_kept spacecraft pool' cs' e ∙ f')
        (record { there = there_after pool cs e ∙ s.there ∙ sym (there_after pool' cs' e); own = next }) in
        (rw (eq-eqb n (channel_of e) p) (ap₂ {C = List Told} (λ t ts. t ∷ ts) a.same y.0), y.1)

pub runs_agree : (spacecraft pool pool' : ℕ) (cs cs' : List Channel) → RunsAgree ours spacecraft pool pool' cs cs'
runs_agree spacecraft pool pool' cs cs' = record { agree = λ f f' n s es es' x. runs spacecraft n pool pool' x f f' s }
