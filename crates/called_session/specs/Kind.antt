-- The kind of the frame that a call hands down, as the answer's octets tell it (crate sender_octets, specs/Answer): that of the frame as it reads.
use Rattle.std.specs.Prelude.{ℕ, ◌≤◌, ◌≡◌, true, List}
use Rattle.std.proofs.Math.Option.{none, some}
use Rattle.base.specs.Octets.{Octets}
use Rattle.fop.specs.Units.{Own, Frame, AD, BD, Unlock, SetVR, Refused}
use Rattle.fop.specs.Events.{SenderEvent}
use Rattle.sender_rows_view.specs.State.{Good}
use Rattle.session.specs.Frames.{read}
use Rattle.sender_octets.specs.Kept.{is_state, state_in}
use Rattle.sender_octets.specs.Answer.{kind_number, answer_in}
use Rattle.pondreszi_sender.specs.Senders.{Called}
use Rattle.called_session.specs.Called.{Kept, call_of, answer_called}

-- table 6-3 and clause 7.8: the kind of a frame by number: 1 AD, 2 BD, 3 Unlock, 4 Set V(R); 0 for octets that are refused
abbrev pub frame_number : Frame → ℕ
frame_number (AD unit) = 1
frame_number (BD octets) = 2
frame_number Unlock = 3
frame_number (SetVR value) = 4
frame_number (Refused number) = 0

-- the number that the answer's octets tell
abbrev pub kind_called : Called → ℕ
kind_called call = kind_number (answer_in call.answer).kind

-- 0 where no frame is handed down, and only there; else the kind of the frame as it reads at the address of both ends, where it is octets (the
-- output's type sees to that)
pub record TellsKind (own : Own) (call : Called) : Type 0 where
  pub nothing : (answer_called call).down ≡ none → kind_called call ≡ 0
  pub frame : (s : List ℕ) → (answer_called call).down ≡ some s → Octets s → (kind_called call ≡ frame_number (read own s)) × (1 ≤ kind_called call)

-- of every call of a well-formed sender
abbrev pub KindTold : Type 0
KindTold =
    (own : Own) (x : Kept) → is_state x.state ≡ true → Good own (state_in x.state) x.store → (e : SenderEvent) (output : List ℕ)
    → TellsKind own (call_of e output x)
