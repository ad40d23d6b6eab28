-- A response is put at the end: the view of the work with one response more is the machine's response on the view, where there is room.
use Prim.Native.Nat.{ℕ, suc, ◌+◌, ◌≤◌}
use mathlib.Core.Path.{◌≡◌, sym, ap, ◌∙◌}
use mathlib.Core.List.{List, [], ◌∷◌, ◌++◌, map, map-append}
use mathlib.Core.Option.{Option}
use Rattle.base.proofs.Tests.{yes}
use Rattle.fop.specs.Units.{Fdu, Frame}
use Rattle.fop.specs.declared.Action.TheVariants as action
use Rattle.fop.specs.declared.Event.{Event as FopEvent}
use Rattle.fop.specs.Variables as machine
use Rattle.fop.specs.Machine.{perform}
use Rattle.sender_values.specs.declared.Work.{Work}
use native.Mathlib.Numerals.{add-one}
use native.Mathlib.Omega.{arith}
use borrow.Author.Tests.{lt-ltb}
use lib.Dec.{ltb}
use lib.ListN.{length, take, set, length-set}
use lib.Seq.{take-suc-set}
use Rattle.fop.specs.declared.Response.{Response}
use Rattle.fop.specs.declared.Response.TheVariants.{RejectAdUnit, AcceptBdUnit, RejectBdUnit, AcceptDirective, RejectDirective, ConfirmDirective}
use Rattle.sender_values.specs.declared.Responses.{Responses}
use Rattle.sender_values.specs.Limits.{largest_responses}
use Rattle.sender_values.specs.Parts.{with_told}
use Rattle.sender_values.specs.Actions as act
use Rattle.sender_values.specs.Actions.{response_number, responses_with}
use Rattle.sender_view.specs.View.{fop_of, frames_of, response_of, responses_of, view}

-- the work with these variables, frames and responses
abbrev pub seen : Option FopEvent → List ℕ → ℕ → List Fdu → List Fdu → Work → machine.Fop → List Frame → List Response → machine.Work
seen e o n c d w f frames responses = record {
  fop = f;
  asked = record { event = e; octets = o; value = n };
  frames = frames;
  confirmed = c;
  denied = d;
  responses = responses;
  notices = record { abort = w.told.abort; alert = w.told.alert; suspended = w.told.suspended };
}

-- room for n responses more
pub record Room (n : ℕ) (r : Responses) : Type 0 where
  pub few : r.count + n ≤ largest_responses
  pub all_numbers : length r.numbers ≡ largest_responses

-- the responses with one more, where there is room
abbrev pub more : ℕ → Responses → Responses
more x r = record { count = r.count + 1; numbers = set r.numbers r.count x }

with_more : (x : ℕ) (r : Responses) → Room 1 r → responses_with x r ≡ more x r
unfolding responses_with
with_more x r m = yes (ltb r.count largest_responses) (more x r) r (lt-ltb r.count largest_responses (omega arith))

pub more_responses : (x : ℕ) (r : Responses) → Room 1 r → responses_of (responses_with x r) ≡ responses_of r ++ (response_of x ∷ [])
more_responses x r m =
    ap responses_of (with_more x r m)
    ∙ ap (λ (j : ℕ). map response_of (take j (set r.numbers r.count x))) (add-one r.count)
    ∙ ap (map response_of) (take-suc-set r.numbers r.count x (omega arith))
    ∙ map-append response_of (take r.count r.numbers) (x ∷ [])

pub room_more : (n x : ℕ) (r : Responses) → Room (suc n) r → Room n (responses_with x r)
room_more n x r m = move (more x r) (responses_with x r)
    (record { few = omega arith; all_numbers = length-set r.numbers r.count x ∙ m.all_numbers })
    (with_more x r (record { few = omega arith; all_numbers = m.all_numbers })) where
      move : (u v : Responses) → Room n u → v ≡ u → Room n v
      move u v f p = rw p f

-- a response of the machine, by our name for it
abbrev pub response_named : Response → Response
response_named r = response_of (response_number r)

module _ (e : Option FopEvent) (o : List ℕ) (n : ℕ) (c d : List Fdu) (w : Work) (lengths store : List ℕ) (room : Room 1 w.told.responses) where
  pub respond : (r : Response) → machine.respond (response_named r) (view e o n c d w lengths store) ≡ view e o n c d (act.respond r w) lengths store
  unfolding act.respond with_told
  respond r =
      ap (seen e o n c d w (fop_of w lengths store) (frames_of w.told.handed lengths store o)) (sym (more_responses (response_number r) w.told.responses room))

  pub accept : perform action.Accept (view e o n c d w lengths store) ≡ view e o n c d (act.respond AcceptDirective w) lengths store
  unfolding perform
  accept = respond AcceptDirective

  pub reject : perform action.Reject (view e o n c d w lengths store) ≡ view e o n c d (act.respond RejectDirective w) lengths store
  unfolding perform
  reject = respond RejectDirective

  pub confirm : perform action.Confirm (view e o n c d w lengths store) ≡ view e o n c d (act.respond ConfirmDirective w) lengths store
  unfolding perform
  confirm = respond ConfirmDirective

  pub reject_ad : perform action.RejectAd (view e o n c d w lengths store) ≡ view e o n c d (act.respond RejectAdUnit w) lengths store
  unfolding perform
  reject_ad = respond RejectAdUnit

  pub accept_bd : perform action.AcceptBd (view e o n c d w lengths store) ≡ view e o n c d (act.respond AcceptBdUnit w) lengths store
  unfolding perform
  accept_bd = respond AcceptBdUnit

  pub reject_bd : perform action.RejectBd (view e o n c d w lengths store) ≡ view e o n c d (act.respond RejectBdUnit w) lengths store
  unfolding perform
  reject_bd = respond RejectBdUnit
