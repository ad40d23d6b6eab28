-- The kind that a call tells is the kind of the frame that it hands down, as the frame reads: the kind told is that of what the row hands down, and
-- a frame written of that kind is read back as one (crate frame, proofs/Back). N(S) is written modulo 256, so no limit of it is needed.
use Rattle.std.specs.Prelude.{Option, None, Some}
use Prim.Native.Nat.{ℕ, ◌+◌, ◌%◌, ◌≤◌}
use mathlib.Core.Path.{◌≡◌, refl, sym, ap, ap₂, subst, ◌∙◌}
use mathlib.Core.Bool.{Bool, true, false}
use mathlib.Core.List.{List, [], ◌∷◌, ◌++◌, append-nil}
use mathlib.Core.Option.{none, some}
use native.Mathlib.Omega.{arith}
use borrow.Author.Tests.{leb-true, ne_eqb}
use lib.Dec.{leb}
use lib.ListN.{length, take, drop}
use lib.Seq.{take-append_seam}
use Rattle.base.specs.Choice.{pick, must}
use Rattle.base.specs.Fields.{digits_of, value_of, packed}
use Rattle.base.specs.Limits.{largest_unit, largest_spacecraft, largest_channel}
use Rattle.base.specs.Octets.{Octets}
use Rattle.base.specs.Outcome.{Outcome, Outcome.done, Outcome.refused}
use Rattle.base.proofs.Fields.{length_digits, bits_digits, value_digits, digits_value}
use Rattle.frame_header.specs.Header.{header_fields, header_of}
use Rattle.frame.specs.Frame.{bypass_of, control_of, number_of, data_of, overhead, body_of, raw_frame, frame_of, raw_writing, writing}
use Rattle.frame.specs.Answers.{FrameReading, reading_of, part_of}
use Rattle.frame.specs.declared.Kind.{Kind}
use Rattle.frame.specs.declared.Kind.TheVariants as kind
use Rattle.frame.proofs.Lengths.{length_frame}
use Rattle.frame.proofs.Back.{Legal, frame_back}
use Rattle.fecf.specs.Fecf.{fecf_of, field_octets}
use Rattle.fop.specs.Units.{Own}
use Rattle.fop.specs.declared.Event.{Event as FopEvent}
use Rattle.fop.specs.Answers.{Answer}
use Rattle.sender_values.specs.declared.Handed.{Handed}
use Rattle.sender_values.specs.declared.Handed.TheVariants as handed
use Rattle.sender_values.specs.declared.SenderState.{SenderState}
use Rattle.sender_values.specs.declared.Work.{Work}
use Rattle.session.specs.Frames.{carried, by_reading, read}
use Rattle.fop.proofs.Choices.{none_some}
use Rattle.sender.specs.Answers.{kind_handed, answered, refusing, Step, step_by, refused_step}
use Rattle.sender_frames.specs.Frames.{handed_writing}
use Rattle.sender_octets.specs.Kept.{state_in}
use Rattle.sender_octets.specs.Answer.{kind_number, Told}
use Rattle.pondreszi_sender.specs.Senders.{Called}
use Rattle.our_session.specs.Ours.{step_of, handed_down}
use Rattle.called_session.specs.Called.{call_of, answer_called, held_in}
use Rattle.called_session.specs.Kind.{frame_number, kind_called, KindTold}
use Rattle.called_session.proofs.Ways.{Way, refuses, writes, fits}
use Rattle.called_session.proofs.Sender.{call_is, way, told_is, answer_is}

-- octets of which a list is a part
front : (xs ys : List ℕ) → Octets (xs ++ ys) → Octets xs
front [] ys h = tt
front (x ∷ xs) ys h = (h.0, front xs ys h.1)

behind : (xs ys : List ℕ) → Octets (xs ++ ys) → Octets ys
behind [] ys h = h
behind (x ∷ xs) ys h = behind xs ys h.1

-- N(S) is written modulo 256
abbrev octet_kind : Kind → Kind
octet_kind (kind.Ad number) = kind.Ad (number % 256)
octet_kind kind.Bd = kind.Bd
octet_kind kind.Unlock = kind.Unlock
octet_kind (kind.SetVr value) = kind.SetVr value

digits_octet : (n : ℕ) → digits_of 8 n ≡ digits_of 8 (n % 256)
digits_octet n =
    let v : value_of 0 (digits_of 8 n) ≡ n % 256 = value_digits 8 0 n ∙ omega arith in
    sym (ap₂ digits_of (sym (length_digits 8 n)) (sym v) ∙ digits_value 0 (digits_of 8 n) (bits_digits 8 n))

header_octet : (bypass control spacecraft channel total n : ℕ)
    → header_of bypass control spacecraft channel total n ≡ header_of bypass control spacecraft channel total (n % 256)
unfolding header_of header_fields packed
header_octet bypass control spacecraft channel total n = rw (digits_octet n)

module _ (own : Own) (u : List ℕ) where
  abbrev frame : Kind → List ℕ
  frame k = frame_of own.spacecraft own.channel k u

  frame_octet : (k : Kind) → frame k ≡ frame (octet_kind k)
  unfolding raw_frame body_of
  frame_octet (kind.Ad n) =
      ap (λ (h : List ℕ). h ++ u ++ field_octets (fecf_of (h ++ u))) (header_octet 0 0 own.spacecraft own.channel (length u + overhead) n)
  frame_octet kind.Bd = refl
  frame_octet kind.Unlock = refl
  frame_octet (kind.SetVr value) = refl

  data_octets : (k : Kind) → Octets (frame k) → Octets (data_of k u)
  unfolding raw_frame body_of
  data_octets k h =
      let header : List ℕ = header_of (bypass_of k) (control_of k) own.spacecraft own.channel (length (data_of k u) + overhead) (number_of k) in
      behind header (data_of k u) (front (header ++ data_of k u) (field_octets (fecf_of (header ++ data_of k u))) h)

  legal : (k : Kind) → Octets (data_of k u) → 1 ≤ length (data_of k u) → length (data_of k u) ≤ largest_unit → Legal (octet_kind k) u
  legal (kind.Ad n) o a b = (omega arith, a, b, o)
  legal kind.Bd o a b = (a, b, o)
  legal kind.Unlock o a b = tt
  legal (kind.SetVr value) o a b = o.1.1.0

  -- the kind's number
  abbrev number_of_kind : Kind → ℕ
  number_of_kind k = frame_number (carried k [])

  carried_number : (k : Kind) (o : List ℕ) → frame_number (carried (octet_kind k) o) ≡ number_of_kind k
  carried_number (kind.Ad n) o = refl
  carried_number kind.Bd o = refl
  carried_number kind.Unlock o = refl
  carried_number (kind.SetVr value) o = refl

  number_least : (k : Kind) → 1 ≤ number_of_kind k
  number_least (kind.Ad n) = omega arith
  number_least kind.Bd = omega arith
  number_least kind.Unlock = omega arith
  number_least (kind.SetVr value) = omega arith

  -- a frame that is octets is read as its kind
  module _ (k : Kind) (low : 1 ≤ length (data_of k u)) (high : length (data_of k u) ≤ largest_unit)
      (hs : own.spacecraft ≤ largest_spacecraft) (hc : own.channel ≤ largest_channel) where
    read_number : Octets (frame k) → frame_number (read own (frame k)) ≡ number_of_kind k
    unfolding read
    read_number o =
        let l : Legal (octet_kind k) u = legal k (data_octets k o) low high in
        let p : List ℕ = part_of (frame k) own.spacecraft own.channel in
        ap (λ (s : List ℕ). frame_number (by_reading (reading_of s own.spacecraft own.channel) p))
        (frame_octet k ∙ sym (append-nil (frame (octet_kind k))))
        ∙ ap (λ (r : FrameReading). frame_number (by_reading r p))
        (frame_back own.spacecraft own.channel (octet_kind k) u [] hs hc l (omega arith) tt)
        ∙ carried_number k p

    -- it has octets
    frame_down : (output : List ℕ) → handed_down (length (frame k)) (frame k ++ drop (length (frame k)) output) ≡ some (frame k)
    frame_down output =
        let n : length (frame k) ≡ length (data_of k u) + 7 =
        length_frame (bypass_of k) (control_of k) (number_of k) own.spacecraft own.channel (data_of k u) in
        ap (λ (b : Bool). pick b none (some (take (length (frame k)) (frame k ++ drop (length (frame k)) output))))
        (ne_eqb (length (frame k)) 0 (λ e. omega (arith, n, e)))
        ∙ ap some (take-append_seam (frame k) (drop (length (frame k)) output))

-- a step tells the kind of what it hands down
record Tells (own : Own) (step : Step) : Type 0 where
  nothing : handed_down step.answer.down step.output ≡ none → kind_number step.answer.kind ≡ 0
  some_down : (s : List ℕ) → handed_down step.answer.down step.output ≡ some s → Octets s
      → (kind_number step.answer.kind ≡ frame_number (read own s)) × (1 ≤ kind_number step.answer.kind)

some_same : {x y : List ℕ} → some x ≡ some y → x ≡ y
some_same e = cc

module _ (s : SenderState) (store output : List ℕ) where
  abbrev at : Own
  at = record { spacecraft = s.settings.spacecraft; channel = s.settings.channel }

  refused_tells : (number : ℕ) → Tells at (refused_step number s store output)
  unfolding refusing
  refused_tells number = record { nothing = λ e. refl; some_down = λ o e h. absurd (none_some e) }

  module _ (event : Option FopEvent) (w : Work) (ls new : List ℕ) where
    -- a frame of this kind, by what writing it comes to
    frame_tells_lem : (k : Kind) (u : List ℕ) → kind_number (kind_handed w.told.handed) ≡ number_of_kind at u k
        → Tells at (step_by event s w ls (writing at.spacecraft at.channel k u (length output)) new store output)
    unfolding raw_writing answered
    frame_tells_lem k u p =
        by (leb 1 (length (data_of k u))) refl (leb (length (data_of k u)) largest_unit) refl (leb at.spacecraft largest_spacecraft) refl
        (leb at.channel largest_channel) refl (leb (length (data_of k u) + overhead) (length output)) where
          on : Outcome (Unit {0})
          on = done (frame at u k) tt

          step : Bool → Bool → Bool → Bool → Bool → Step
          step a b c d e =
              step_by event s w ls
              (must a (refused 10 0) (must b (refused 10 0) (must c (refused 12 0) (must d (refused 12 0) (must e (refused 11 0) on)))))
              new store output

          written : leb 1 (length (data_of k u)) ≡ true → leb (length (data_of k u)) largest_unit ≡ true → leb at.spacecraft largest_spacecraft ≡ true
              → leb at.channel largest_channel ≡ true → Tells at (step_by event s w ls on new store output)
          written a b c d =
              let low = leb-true 1 (length (data_of k u)) a in
              let high = leb-true (length (data_of k u)) largest_unit b in
              let hs = leb-true at.spacecraft largest_spacecraft c in
              let hc = leb-true at.channel largest_channel d in
              let down = frame_down at u k low high hs hc output in
              record {
                nothing = λ e. absurd (none_some (sym e ∙ down));
                some_down = λ o e h.
                    let q : frame at u k ≡ o = some_same (sym down ∙ e) in
                    let r = read_number at u k low high hs hc (subst Octets (sym q) h) in
                    (p ∙ sym r ∙ ap (λ (x : List ℕ). frame_number (read at x)) q, subst (λ (n : ℕ). 1 ≤ n) (sym p) (number_least at u k));
              }

          by : (a : Bool) → leb 1 (length (data_of k u)) ≡ a → (b : Bool) → leb (length (data_of k u)) largest_unit ≡ b
              → (c : Bool) → leb at.spacecraft largest_spacecraft ≡ c → (d : Bool) → leb at.channel largest_channel ≡ d
              → (e : Bool) → Tells at (step a b c d e)
          by true pa true pb true pc true pd true = written pa pb pc pd
          by true pa true pb true pc true pd false = refused_tells 11
          by true pa true pb true pc false pd e = refused_tells 12
          by true pa true pb false pc d pd e = refused_tells 12
          by true pa false pb c pc d pd e = refused_tells 10
          by false pa b pb c pc d pd e = refused_tells 10

    -- by what the row hands down
    by_handed : (u : List ℕ) (h : Option Handed) → w.told.handed ≡ h
        → Tells at (step_by event s w ls (handed_writing s.settings h u (length output)) new store output)
    unfolding handed_writing answered
    by_handed u None p = record { nothing = λ e. ap (λ (x : Option Handed). kind_number (kind_handed x)) p; some_down = λ o e h. absurd (none_some e) }
    by_handed u (Some (handed.Ad n i)) p = frame_tells_lem (kind.Ad n) u (ap (λ (x : Option Handed). kind_number (kind_handed x)) p)
    by_handed u (Some handed.Bd) p = frame_tells_lem kind.Bd u (ap (λ (x : Option Handed). kind_number (kind_handed x)) p)
    by_handed u (Some handed.Unlock) p = frame_tells_lem kind.Unlock [] (ap (λ (x : Option Handed). kind_number (kind_handed x)) p)
    by_handed u (Some (handed.SetVr n)) p = frame_tells_lem (kind.SetVr n) [] (ap (λ (x : Option Handed). kind_number (kind_handed x)) p)

  step_tells : (y : Step) → Way s store output y → Tells at y
  step_tells y (refuses number) = refused_tells number
  step_tells y (writes k w ls u new four) = by_handed k w ls new u w.told.handed refl

-- so does the call
pub kind_told : KindTold
kind_told own x is good e output =
    let s : SenderState = state_in x.state in
    let y : Step = step_of e output (held_in x) in
    let t : Tells own y = subst (λ (o : Own). Tells o y)
    (ap₂ (λ (a b : ℕ). record { spacecraft = a; channel = b }) good.spacecraft good.channel)
    (step_tells s x.store output y (way x is output e)) in
    let d : (answer_called (call_of e output x)).down ≡ handed_down y.answer.down y.output =
    ap (λ (a : Answer). a.down) (answer_is x is output e) in
    let k : kind_called (call_of e output x) ≡ kind_number y.answer.kind =
    ap (λ (c : Called). kind_called c) (call_is x is output e)
    ∙ ap (λ (a : Told). kind_number a.kind) (told_is x is output y.answer (fits s x.store output y (way x is output e))) in
    record {
      nothing = λ p. k ∙ t.nothing (sym d ∙ p);
      frame = λ o p h.
          let r = t.some_down o (sym d ∙ p) h in
          (k ∙ r.0, subst (λ (n : ℕ). 1 ≤ n) (sym k) r.1);
    }
