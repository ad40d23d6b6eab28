-- The ways through each action of table 7-8 that tests before it acts: what holds on each of them holds of the action.
use mathlib.Core.Path.{◌≡◌, refl}
use mathlib.Core.Bool.{false, ◌&&◌}
use mathlib.Core.List.{List, [], ◌++◌}
use mathlib.Core.Option.{Option, none, some}
use Prim.Native.Nat.{ℕ, ◌<◌}
use lib.Dec.{ltb}
use borrow.Author.Tests.{ltb-true}
use Rattle.base.specs.Modulo.{offset}
use Rattle.fop.specs.Units.{Fdu}
use Rattle.fop.specs.declared.Response.{Response}
use Rattle.fop.specs.Variables.{BcEntry, Work, hand_down, on_fop, respond, runs, set_bc, set_out, set_sequence, set_wait}
use Rattle.fop.specs.Machine.{deny_bc, fdus, first_marked, look_for_directive, look_for_fdu, purge, reject_waiting, send_next, send_waiting}
use Rattle.fop.proofs.Choices.{by_pick}

-- with both queues empty, and the units sent denied
abbrev pub emptied : Work → Work
emptied w =
    runs w.confirmed (w.denied ++ fdus w.fop.queues.sent_queue)
    (on_fop (set_wait none (set_bc none (set_sequence w.fop.numbers.vs w.fop.numbers.nnr [] w.fop))) w)

-- the type-BC frame is handed down again
abbrev pub sent_bc : BcEntry → Work → Work
sent_bc b w =
    hand_down b.frame
    (on_fop (set_out w.fop.out.ad false w.fop.out.bd (set_bc (some (record { frame = b.frame; marked = false })) w.fop)) w)

module _ (P : Work → Type 0) (w : Work) where
  -- Look for FDU: nothing is sent, or the oldest marked unit, or the unit waiting where the window has room
  pub look_ways : P w → ((u : Fdu) → first_marked w.fop.queues.sent_queue ≡ some u → P (send_next (some u) w))
      → ((o : List ℕ) → offset w.fop.numbers.vs w.fop.numbers.nnr < w.fop.preset.k → w.fop.queues.wait_queue ≡ some o → P (send_waiting (some o) w))
      → P (look_for_fdu w)
  unfolding look_for_fdu send_next send_waiting
  look_ways h again new = by_pick P w.fop.out.ad (λ t. next (first_marked w.fop.queues.sent_queue) refl) (λ t. h)
    where
      waiting : (o : Option (List ℕ)) → w.fop.queues.wait_queue ≡ o → offset w.fop.numbers.vs w.fop.numbers.nnr < w.fop.preset.k → P (send_waiting o w)
      waiting none e r = h
      waiting (some o) e r = new o r e

      next : (o : Option Fdu) → first_marked w.fop.queues.sent_queue ≡ o → P (send_next o w)
      next none e =
          by_pick P (ltb (offset w.fop.numbers.vs w.fop.numbers.nnr) w.fop.preset.k) (λ t. waiting w.fop.queues.wait_queue refl (ltb-true _ _ t)) (λ t. h)
      next (some u) e = again u e

  -- Look for directive: nothing is sent, or the type-BC frame
  pub directive_ways : P w → ((b : BcEntry) → P (sent_bc b w)) → (o : Option BcEntry) → P (look_for_directive o w)
  unfolding look_for_directive
  directive_ways h sent none = h
  directive_ways h sent (some b) = by_pick P (b.marked && w.fop.out.bc) (λ t. sent b) (λ t. h)

  -- purging: the queues are emptied, and a response may be given for each
  pub purge_ways : P (emptied w) → ((r : Response) (v : Work) → P v → P (respond r v)) → P (purge w)
  unfolding purge deny_bc reject_waiting
  purge_ways h answers = rejected w.fop.queues.wait_queue (denied w.fop.queues.bc_frame)
    where
      denied : (o : Option BcEntry) → P (deny_bc o (emptied w))
      denied none = h
      denied (some b) = answers _ (emptied w) h

      rejected : (o : Option (List ℕ)) {v : Work} → P v → P (reject_waiting o v)
      rejected none p = p
      rejected (some u) {v} p = answers _ v p
