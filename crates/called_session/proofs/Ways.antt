-- Every event of the sender, whatever it brings, ends in one of two ways: it is refused, or its row is done and what it hands down is written.
-- So every answer fits its octets (`fits`), and a refused one leaves sender, store and output as they were (`refused_same`).
use Rattle.std.specs.Prelude.{Option, Some, None, Ok, Err}
use Prim.Native.Nat.{ℕ}
use mathlib.Core.Logic.{◌≢◌}
use mathlib.Core.Path.{◌≡◌, refl}
use mathlib.Core.Bool.{Bool, true, false}
use mathlib.Core.List.{List}
use native.Mathlib.Omega.{arith}
use lib.Dec.{leb, eqb}
use lib.ListN.{length, length-replicate}
use Rattle.base.specs.Choice.{pick, must}
use Rattle.base.specs.Limits.{largest_unit}
use Rattle.base.specs.Outcome as outcome
use Rattle.base.specs.Outcome.{Outcome, Outcome.done, Outcome.refused, answer}
use Rattle.store.specs.Places.{unit_put}
use Rattle.base.specs.Refusals.{refusal_number}
use Rattle.clcw.specs.Answers.{WordReading, reading_of}
use Rattle.fop.specs.declared.Event.{Event as FopEvent}
use Rattle.fop.specs.declared.Event.TheVariants.{E15}
use Rattle.fop.specs.Table.{event_number}
use Rattle.fop.specs.Events.{lower_event}
use Rattle.fop.specs.declared.Response.TheVariants.{RejectDirective}
use Rattle.sender_values.specs.declared.SenderState.{SenderState}
use Rattle.sender_values.specs.declared.Work.{Work}
use Rattle.sender_values.specs.Actions.{response_number, responses_with}
use Rattle.sender_values.specs.Limits.{largest_responses}
use Rattle.sender_values.specs.Start.{begun}
use Rattle.sender_table.specs.Rows.{row_of, row_if}
use Rattle.fop.specs.declared.Lower.{Lower}
use Rattle.sender_events.specs.Events.{event_of_word, event_of_directive, window_of, event_of_ad, event_of_bd}
use Rattle.sender.specs.Answers.{no_responses, answered, refusing, concluded, Step, step_by, refused_step}
use Rattle.fop.specs.Store.{store_need}
use Rattle.sender_frames.specs.Limits.{need_of}
use Rattle.sender_frames.specs.Frames.{handed_writing, unit_before, unit_offered, must_be_unit}
use Rattle.sender.specs.Events.{added, store_served, lengths_served, lengths_offered, served_by, served, offered_by, bypassed_by, request_ad_of, request_bd_of, directive_of, ticked, event_of_tick, tick_of, lower_layer_of, word_by, control_word_of}
use Rattle.sender_octets.proofs.Answered.{Fits, down_fits}
use Rattle.called_session.proofs.Responses.{Four, with_four, four}

-- the two ways
pub data Way (s : SenderState) (store output : List ℕ) : Step → Type 0 where
  refuses : (number : ℕ) → Way s store output (refused_step number s store output)
  writes : (k : Option FopEvent) (w : Work) (ls u new : List ℕ) → Four w
      → Way s store output (step_by k s w ls (handed_writing s.settings w.told.handed u (length output)) new store output)

module _ (s : SenderState) (store output : List ℕ) where
  abbrev W : Step → Type 0
  W step = Way s store output step

  either : (b : Bool) (y z : Step) → W y → W z → W (pick b y z)
  either true y z p q = p
  either false y z p q = q

  judged : (b : Bool) (number : ℕ) (y : Step) → W y → W (must b (refused_step number s store output) y)
  judged true number y p = p
  judged false number y p = refuses number

  serves : (window : ℕ) (k : Option FopEvent) (n : ℕ) (g : SenderState) → W (served window k n s g store output)
  unfolding served served_by
  serves window k n g =
      let w : Work = row_if k n (begun g) in
      judged (leb (store_need window s.queues.sent) (length store)) 11 _ (writes k w (lengths_served s w) (unit_before s w store) (store_served s w store) (four k n g))

  -- a request, by its length
  asks : (o : List ℕ) (y : Step) → W y
      → W (must_be_unit o (refused_step 10 s store output) (must (leb (need_of s) (length store)) (refused_step 11 s store output) y))
  asks o y p =
      judged (leb 1 (length o)) 10 _ (judged (leb (length o) largest_unit) 10 _ (judged (leb (need_of s) (length store)) 11 y p))

  pub asks_ad : (o : List ℕ) → W (request_ad_of s o store output)
  unfolding request_ad_of offered_by row_if
  asks_ad o =
      let e : FopEvent = event_of_ad s in
      let w : Work = row_of e 0 (begun s) in
      asks o _ (writes (Some e) w (lengths_offered e s (length o)) (unit_offered s w o store) (pick (added e s) (unit_put s.queues.sent o store) store)
      (four (Some e) 0 s))

  pub asks_bd : (o : List ℕ) → W (request_bd_of s o store output)
  unfolding request_bd_of bypassed_by row_if
  asks_bd o =
      let e : FopEvent = event_of_bd s in
      asks o _ (writes (Some e) (row_of e 0 (begun s)) s.lengths o store (four (Some e) 0 s))

  pub directs : (d v : ℕ) → W (directive_of d v s store output)
  unfolding directive_of
  directs d v = either (eqb (event_number (event_of_directive d v s)) 40) _ _ (refuses 12) (serves (window_of d v s.settings.k) (Some (event_of_directive d v s)) v s)

  pub ticks : W (tick_of s store output)
  unfolding tick_of
  ticks = serves s.settings.k (event_of_tick s) 0 (ticked s)

  pub lowers : (l : Lower) → W (lower_layer_of l s store output)
  unfolding lower_layer_of
  lowers l = serves s.settings.k (Some (lower_event l)) 0 s

  reads : (r : WordReading) → W (word_by r s store output)
  reads (Ok (Some r)) = serves s.settings.k (Some (event_of_word r.word s)) r.word.report s
  reads (Ok None) = serves s.settings.k (Some E15) 0 s
  reads (Err refusal) = refuses (refusal_number refusal)

  pub words : (octets : List ℕ) → W (control_word_of octets s store output)
  unfolding control_word_of
  words octets = reads (reading_of octets s.settings.channel)

  -- what a refusal tells fits
  none_four : length no_responses.numbers ≡ largest_responses
  none_four = length-replicate {A = ℕ} largest_responses 0

  refused_four : (b : Bool) → length (pick b (responses_with (response_number RejectDirective) no_responses) no_responses).numbers ≡ largest_responses
  refused_four true = with_four (response_number RejectDirective) no_responses none_four
  refused_four false = none_four

  refusing_fits : (number : ℕ) → Fits (refusing number s)
  unfolding refusing
  refusing_fits number = record { numbers = refused_four (eqb number 12); down = omega arith }

  numbers_four : (k : Option FopEvent) (w : Work) (ls : List ℕ) → Four w → (x : outcome.Answer (Unit {0})) → length (concluded k s w ls x).responses.numbers ≡ largest_responses
  unfolding answered
  numbers_four k w ls h (outcome.Answer.done count more) = h
  numbers_four k w ls h (outcome.Answer.refused number place) = (refusing_fits number).numbers

  -- every answer fits
  pub fits : (step : Step) → W step → Fits step.answer
  fits step (refuses number) = refusing_fits number
  fits step (writes k w ls u new h) = record {
    numbers = numbers_four k w ls h (answer (handed_writing s.settings w.told.handed u (length output)));
    down = down_fits k s w ls s.settings w.told.handed u (length output);
  }

  -- a step that is refused, by what writing came to
  pub record Same (step : Step) : Type 0 where
    pub next : step.answer.next.fop ≡ s
    pub store_kept : step.store ≡ store
    pub output_kept : step.output ≡ output

  by_writing : (k : Option FopEvent) (w : Work) (ls : List ℕ) (o : Outcome (Unit {0})) (new : List ℕ)
      → (step_by k s w ls o new store output).answer.refusal ≢ 0 → Same (step_by k s w ls o new store output)
  unfolding answered refusing
  by_writing k w ls (done octets more) new h = absurd (h refl)
  by_writing k w ls (refused number place) new h = record { next = refl; store_kept = refl; output_kept = refl }

  pub refused_same : (step : Step) → W step → step.answer.refusal ≢ 0 → Same step
  unfolding refusing
  refused_same step (refuses number) h = record { next = refl; store_kept = refl; output_kept = refl }
  refused_same step (writes k w ls u new four) h = by_writing k w ls (handed_writing s.settings w.told.handed u (length output)) new h
