-- Every step of our sender is concluded by what writing the frame handed down comes to (crate sender, specs/Answers), and that looks at the
-- length of the output lent and at none of its octets. A refused event is a writing that is refused.
use Rattle.std.specs.Prelude.{Option, Some, None, Ok, Err}
use Prim.Native.Nat.{ℕ, suc, ◌≤◌}
use mathlib.Core.Path.{◌≡◌, refl, ap, ◌∙◌}
use mathlib.Core.Bool.{Bool, true, false}
use mathlib.Core.List.{List, []}
use native.Mathlib.Omega.{arith}
use borrow.Author.Tests.{leb-true}
use lib.Dec.{leb, eqb}
use lib.ListN.{length}
use Rattle.base.specs.Choice.{pick, must}
use Rattle.base.specs.Limits.{largest_unit}
use Rattle.base.specs.Outcome.{Outcome, Outcome.refused}
use Rattle.base.specs.Outcome as outcome
use Rattle.store.specs.Places.{unit_put, without}
use Rattle.store.proofs.Laws.{put_length, without_length}
use Rattle.base.specs.Refusals.{refusal_number}
use Rattle.clcw.specs.Answers.{WordReading, reading_of}
use Rattle.fop.specs.Units.{are_octets}
use Rattle.fop.specs.Store.{store_need}
use Rattle.fop.specs.declared.Event.{Event as FopEvent}
use Rattle.fop.specs.declared.Event.TheVariants.{E15}
use Rattle.fop.specs.Table.{event_number}
use Rattle.fop.specs.Events.{lower_event, SenderEvent, request_ad, request_bd, tick, lower, directive, word_arrives}
use Rattle.sender_values.specs.declared.SenderState.{SenderState}
use Rattle.sender_values.specs.declared.Work.{Work}
use Rattle.sender_values.specs.Start.{begun}
use Rattle.sender_view.proofs.SentQueue.{held_most}
use Rattle.sender_table.specs.Rows.{row_of, row_if}
use Rattle.sender_events.specs.Events.{event_of_word, event_of_directive, window_of, event_of_ad, event_of_bd}
use Rattle.sender.specs.Answers as ans
use Rattle.sender.specs.Answers.{Step, step_by, refused_step}
use Rattle.sender_frames.specs.Limits.{need_of}
use Rattle.sender_frames.specs.Frames.{handed_writing, unit_before, unit_offered, must_be_unit}
use Rattle.sender.specs.Events.{added, served_by, served, offered_by, bypassed_by, request_ad_of, request_bd_of, directive_of, ticked, event_of_tick, tick_of, lower_layer_of, word_by, control_word_of}
use Rattle.our_session.specs.Ours.{Held, step_of}

-- the store that is left where the step is done: as it was, without its oldest units, or with the unit offered
pub data Left (x : Held) : List ℕ → Type 0 where
  same : Left x x.store
  fewer : (count staying : ℕ) → staying ≤ suc x.sender.fop.queues.sent → Left x (without x.sender.fop.lengths count staying x.store)
  more : (o : List ℕ) → length o ≤ largest_unit → Left x (unit_put x.sender.fop.queues.sent o x.store)

-- a step, by the output lent: its event, its work, what writing comes to and the store after it are the same for all outputs of this length
pub record Concluded (x : Held) (lent : ℕ) (step : List ℕ → Step) : Type 0 where
  pub event : Option FopEvent
  pub work : Work
  pub lengths : List ℕ
  pub writing : Outcome (Unit {0})
  pub new : List ℕ
  pub left : Left x new
  pub is : (output : List ℕ) → length output ≡ lent → step output ≡ step_by event x.sender.fop work lengths writing new x.store output

module _ (x : Held) (lent : ℕ) where
  abbrev s : SenderState
  s = x.sender.fop

  abbrev store : List ℕ
  store = x.store

  abbrev C : (List ℕ → Step) → Type 0
  C step = Concluded x lent step

  refused_with : (number : ℕ) → C (λ output. refused_step number s store output)
  refused_with number = record { event = None; work = begun s; lengths = []; writing = refused number 0; new = store; left = same; is = λ output l. refl }

  either : (b : Bool) (y z : List ℕ → Step) → C y → C z → C (λ output. pick b (y output) (z output))
  either true y z p q = p
  either false y z p q = q

  judged : (b : Bool) (y z : List ℕ → Step) → C y → C z → C (λ output. must b (y output) (z output))
  judged true y z p q = q
  judged false y z p q = p

  -- the frame handed down is written with the unit u
  written : (k : Option FopEvent) (w : Work) (ls u new : List ℕ) → Left x new → C (λ output. step_by k s w ls (handed_writing s.settings w.told.handed u (length output)) new store output)
  written k w ls u new left = record {
    event = k;
    work = w;
    lengths = ls;
    writing = handed_writing s.settings w.told.handed u lent;
    new = new;
    left = left;
    is = λ output l. ap (λ (n : ℕ). step_by k s w ls (handed_writing s.settings w.told.handed u n) new store output) l;
  }

  served_by_lem : (k : Option FopEvent) (w : Work) → C (λ output. served_by k s w store output)
  unfolding served_by
  served_by_lem k w = written k w _ (unit_before s w store) _ (fewer w.told.confirmed.count _ (omega (arith, held_most s.queues.sent s.queues.waiting)))

  left_offered : (b : Bool) (o : List ℕ) → length o ≤ largest_unit → Left x (pick b (unit_put s.queues.sent o store) store)
  left_offered true o m = more o m
  left_offered false o m = same

  offered_by_lem : (e : FopEvent) (w : Work) (o : List ℕ) → length o ≤ largest_unit → C (λ output. offered_by e s w o store output)
  unfolding offered_by
  offered_by_lem e w o m = written (Some e) w _ (unit_offered s w o store) _ (left_offered (added e s) o m)

  bypassed_by_lem : (e : FopEvent) (w : Work) (o : List ℕ) → C (λ output. bypassed_by e s w o store output)
  unfolding bypassed_by
  bypassed_by_lem e w o = written (Some e) w _ o store same

  -- where the store is long enough
  stored : (need : ℕ) (y : List ℕ → Step) → C y → C (λ output. must (leb need (length store)) (refused_step 11 s store output) (y output))
  stored need y h = judged (leb need (length store)) (λ output. refused_step 11 s store output) y (refused_with 11) h

  serves : (window : ℕ) (k : Option FopEvent) (n : ℕ) (g : SenderState) → C (λ output. served window k n s g store output)
  unfolding served
  serves window k n g = stored (store_need window s.queues.sent) _ (served_by_lem k (row_if k n (begun g)))

  -- a request, by its length
  asks : (o : List ℕ) (y : List ℕ → Step) → (length o ≤ largest_unit → C y)
      → C (λ output. must_be_unit o (refused_step 10 s store output) (must (leb (need_of s) (length store)) (refused_step 11 s store output) (y output)))
  asks o y h =
      judged (leb 1 (length o)) (λ output. refused_step 10 s store output) _ (refused_with 10) (fits (leb (length o) largest_unit) refl)
    where
      fits : (b : Bool) → leb (length o) largest_unit ≡ b
          → C (λ output. must b (refused_step 10 s store output) (must (leb (need_of s) (length store)) (refused_step 11 s store output) (y output)))
      fits true e = stored (need_of s) y (h (leb-true (length o) largest_unit e))
      fits false e = refused_with 10

  asks_ad : (o : List ℕ) → C (λ output. request_ad_of s o store output)
  unfolding request_ad_of
  asks_ad o = asks o _ (offered_by_lem (event_of_ad s) (row_of (event_of_ad s) 0 (begun s)) o)

  asks_bd : (o : List ℕ) → C (λ output. request_bd_of s o store output)
  unfolding request_bd_of
  asks_bd o = asks o _ (λ m. bypassed_by_lem (event_of_bd s) (row_of (event_of_bd s) 0 (begun s)) o)

  directs : (d v : ℕ) → C (λ output. directive_of d v s store output)
  unfolding directive_of
  directs d v = either (eqb (event_number (event_of_directive d v s)) 40) (λ output. refused_step 12 s store output) _ (refused_with 12) (serves (window_of d v s.settings.k) (Some (event_of_directive d v s)) v s)

  reads : (r : WordReading) → C (λ output. word_by r s store output)
  reads (Ok (Some r)) = serves s.settings.k (Some (event_of_word r.word s)) r.word.report s
  reads (Ok None) = serves s.settings.k (Some E15) 0 s
  reads (Err refusal) = refused_with (refusal_number refusal)

  word_read : (octets : List ℕ) → C (λ output. control_word_of octets s store output)
  unfolding control_word_of
  word_read octets = reads (reading_of octets s.settings.channel)

  -- what is lent as octets
  as_octets : (o : List ℕ) (y : List ℕ → Step) → C y → C (λ output. pick (are_octets o) (y output) (refused_step 10 s store output))
  as_octets o y h = either (are_octets o) y (λ output. refused_step 10 s store output) h (refused_with 10)

  pub concluded : (e : SenderEvent) → C (λ output. step_of e output x)
  unfolding step_of tick_of lower_layer_of
  concluded (request_ad o) = as_octets o _ (asks_ad o)
  concluded (request_bd o) = as_octets o _ (asks_bd o)
  concluded tick = serves s.settings.k (event_of_tick s) 0 (ticked s)
  concluded (lower l) = serves s.settings.k (Some (lower_event l)) 0 s
  concluded (directive d v) = directs d v
  concluded (word_arrives octets) = as_octets octets _ (word_read octets)

-- the store has its length after every event
module _ (x : Held) where
  left_length : (new : List ℕ) → Left x new → length new ≡ length x.store
  left_length new same = refl
  left_length new (fewer count staying few) = without_length x.sender.fop.lengths count x.store staying
  left_length new (more o m) = put_length [] x.store o x.sender.fop.queues.sent

  by_writing : (a : outcome.Answer (Unit {0})) (new : List ℕ) → Left x new → length (ans.stored a new x.store) ≡ length x.store
  by_writing (outcome.Answer.done count told) new left = left_length new left
  by_writing (outcome.Answer.refused number place) new left = refl

  pub store_length : (e : SenderEvent) (output : List ℕ) → length (step_of e output x).store ≡ length x.store
  store_length e output =
      let c = concluded x (length output) e in
      ap (λ (step : Step). length step.store) (c.is output refl) ∙ by_writing (outcome.answer c.writing) c.new c.left
