-- How numbers cross the boundary to C and Rust. What an answer does not have is 0. What is given comes as 32 bits, so that nothing is cut off
-- on the way: every value is judged as it was given.
use Rattle.std.specs.Prelude.{ℕ, suc, ◌+◌, ◌*◌, not, List, [], leb, eqb, length, Option, Some, None, Ok, Err}
use Rattle.base.specs.Choice.{pick, must}
use Rattle.base.specs.Limits.{largest_input, largest_spacecraft, largest_channel}
use Rattle.base.specs.Outcome.{Outcome, Outcome.done, Outcome.refused, Answer}
use Rattle.base.specs.Outcome as outcome
use Rattle.base.specs.Flags.{bit_of}
use Rattle.codeblock.specs.Codeblock.{judged}
use Rattle.codeblock.specs.declared.Judged.{Judged}
use Rattle.codeblock.specs.declared.Mode.{Mode}
use Rattle.codeblock.specs.declared.Mode.TheVariants.{Detecting, Correcting}
use Rattle.cltu.specs.Cltu.{Found, reading}
use Rattle.fop.specs.Limits.{largest_number}
use Rattle.frame.specs.Answers.{FrameReading}
use Rattle.frame.specs.Frame.{writing}
use Rattle.frame.specs.declared.Kind.{Kind}
use Rattle.frame.specs.declared.Kind.TheVariants.{Ad, Bd, Unlock, SetVr}
use Rattle.clcw.specs.Answers.{WordReading}
use Rattle.clcw.specs.declared.Clcw.{Clcw}
use Rattle.clcw.specs.declared.ReceivedWord.{ReceivedWord}

-- the largest number of one octet
abbrev pub largest_octet : ℕ
largest_octet = 255

-- the largest number of two octets
abbrev pub largest_pair : ℕ
largest_pair = 65535

-- a number in fewer bits: itself up to the most that they hold, another beyond
abbrev pub narrow : ℕ → ℕ → ℕ → ℕ
narrow most other x = pick (leb x most) x other

-- document 01, "Writing: 10, 12, 11": N(S), V*(R) or Report Value beyond an octet is judged where the address is, as one beyond its limit
abbrev pub with_number : ℕ → ℕ → ℕ → ℕ
with_number number own beyond = pick (leb number largest_number) own beyond

-- `pondreszi_frame_write_ad`: a frame of type AD
abbrev pub ad_writing : ℕ → ℕ → ℕ → List ℕ → ℕ → Outcome (Unit {0})
ad_writing spacecraft channel number unit room = writing (with_number number spacecraft (suc largest_spacecraft)) channel (Ad number) unit room

-- `pondreszi_frame_write_set_vr`: the control command Set V(R)
abbrev pub set_vr_writing : ℕ → ℕ → ℕ → ℕ → Outcome (Unit {0})
set_vr_writing spacecraft channel value room = writing (with_number value spacecraft (suc largest_spacecraft)) channel (SetVr value) [] room

-- document 02, order 3, "chosen by a setting": 0 is the detecting mode, 1 the correcting mode
abbrev pub largest_mode : ℕ
largest_mode = 1

abbrev pub mode_of : ℕ → Mode
mode_of number = pick (eqb number 0) Detecting Correcting

-- `pondreszi_cltu_read`: another mode is a value outside its limit, 12, judged after 10 and before 1
unfoldable pub cltu_reading : ℕ → List ℕ → ℕ → Outcome Found
cltu_reading mode input room =
    must (leb (length input) largest_input) (refused 10 0)
    (must (leb mode largest_mode) (refused 12 0)
    (reading (mode_of mode) input room))

-- a judged codeblock put into a room of so many octets: 2 where it is bad, then 11; its information, and how many bits were corrected
unfoldable pub information_put : Option Judged → ℕ → Outcome ℕ
information_put None room = refused 2 0
information_put (Some block) room = must (leb 7 room) (refused 11 0) (done block.information block.corrected)

-- `pondreszi_codeblock_judge`: 10 where the octets are not eight, 12 where the mode is another
unfoldable pub codeblock_judging : ℕ → List ℕ → ℕ → Outcome ℕ
codeblock_judging mode block room =
    must (eqb (length block) 8) (refused 10 0)
    (must (leb mode largest_mode) (refused 12 0)
    (information_put (judged (mode_of mode) block) room))

-- how many bits were corrected, 0 by a refusal
abbrev pub bits_corrected : Answer ℕ → ℕ
bits_corrected (outcome.Answer.done count corrected) = corrected
bits_corrected (outcome.Answer.refused number place) = 0

-- the place that a CLTU reading tells
abbrev pub place_of : Answer Found → ℕ
place_of (outcome.Answer.done count found) = found.place
place_of (outcome.Answer.refused number place) = place

-- the count of corrected codeblocks, 0 by a refusal
abbrev pub corrected_of : Answer Found → ℕ
corrected_of (outcome.Answer.done count found) = found.corrected
corrected_of (outcome.Answer.refused number place) = 0

-- table 6-3 and clause 7.8: the kind of a frame by number, as octet 17 of the sender's answer: 1 AD, 2 BD, 3 Unlock, 4 Set V(R); 0 is none
abbrev pub kind_number : Kind → ℕ
kind_number (Ad number) = 1
kind_number Bd = 2
kind_number Unlock = 3
kind_number (SetVr value) = 4

-- what a frame carries: N(S), or the value of Set V(R)
abbrev pub kind_value : Kind → ℕ
kind_value (Ad number) = number
kind_value Bd = 0
kind_value Unlock = 0
kind_value (SetVr value) = value

-- the kind of the frame that was read
abbrev pub frame_kind : FrameReading → ℕ
frame_kind (Ok fields) = kind_number fields.kind
frame_kind (Err refusal) = 0

-- its N(S), or the value of Set V(R)
abbrev pub frame_value : FrameReading → ℕ
frame_value (Ok fields) = kind_value fields.kind
frame_value (Err refusal) = 0

-- the octets of the whole frame (clause 6.2.2.8)
abbrev pub frame_total : FrameReading → ℕ
frame_total (Ok fields) = fields.total
frame_total (Err refusal) = 0

-- the octets of its data field (clause 6.2.3)
abbrev pub frame_field : FrameReading → ℕ
frame_field (Ok fields) = fields.field
frame_field (Err refusal) = 0

-- 1 where a control word was read, 0 where it is invalid or refused
abbrev pub word_valid : WordReading → ℕ
word_valid (Ok (Some received)) = 1
word_valid (Ok None) = 0
word_valid (Err refusal) = 0

-- a field of the word that was read, 0 where there is none
abbrev pub word_field : (ReceivedWord → ℕ) → WordReading → ℕ
word_field f (Ok (Some received)) = f received
word_field f (Ok None) = 0
word_field f (Err refusal) = 0

-- Status Field: read and not judged
abbrev pub status_told : ReceivedWord → ℕ
status_told received = received.status

-- the two flags of the physical channel as one number: 2 No RF Available, 1 No Bit Lock
abbrev pub rf_told : ReceivedWord → ℕ
rf_told received = bit_of received.no_rf * 2 + bit_of received.no_bit_lock

-- the three flags as one number: 4 lockout, 2 wait, 1 retransmit
abbrev pub flags_told : ReceivedWord → ℕ
flags_told received = bit_of received.word.lockout * 4 + bit_of received.word.wait * 2 + bit_of received.word.retransmit

-- FARM-B Counter
abbrev pub counter_told : ReceivedWord → ℕ
counter_told received = received.word.counter

-- Report Value, N(R)
abbrev pub report_told : ReceivedWord → ℕ
report_told received = received.word.report

-- `pondreszi_clcw_write`: the word that numbers give; a flag is set where its number is not 0
abbrev pub word_given : ℕ → ℕ → ℕ → ℕ → ℕ → ℕ → Clcw
word_given channel lockout wait retransmit counter report = record {
  channel = with_number report channel (suc largest_channel);
  lockout = not (eqb lockout 0);
  wait = not (eqb wait 0);
  retransmit = not (eqb retransmit 0);
  counter = counter;
  report = report;
}
