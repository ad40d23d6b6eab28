-- N(R) of a control word that is read is an octet: the last of the word's four.
use mathlib.Core.Path.{◌≡◌, refl, ap}
use mathlib.Core.Bool.{Bool, true, false}
use mathlib.Core.List.{List}
use Prim.Native.Nat.{ℕ, ◌≤◌, ◌<◌}
use native.Mathlib.Omega.{arith}
use lib.Dec.{eqb}
use lib.ListN.{length, get_or}
use borrow.Author.Tests.{eqb-true}
use Rattle.base.specs.Choice.{pick, must}
use Rattle.base.specs.Fields.{field_at}
use Rattle.base.proofs.Lists.{octets_at_lem}
use Rattle.clcw.specs.Clcw.{virtual_channel, is_valid, word_of}
use Rattle.clcw.specs.Answers.{reading_of, received_of}
use Rattle.clcw.specs.declared.Clcw.{Clcw}
use Rattle.std.specs.Prelude.{Some, None, Ok, Err}
use Rattle.base.specs.declared.Refusal.TheVariants.{Address, Length}
use Rattle.clcw.proofs.Word.{word_is}
use Rattle.fop.specs.Limits.{largest_number}
use Rattle.fop.specs.Units.{Own, WordReceived, valid, invalid, other, are_octets, word_received, read_word}
use Rattle.session.proofs.Octets.{octets_are}

abbrev pub ReportMost : WordReceived → Type 0
ReportMost (valid w) = w.nr ≤ largest_number
ReportMost invalid = Unit {0}
ReportMost (other r) = Unit {0}

pub report_most : (own : Own) (s : List ℕ) → ReportMost (read_word own s)
unfolding read_word reading_of received_of
report_most own s = by (are_octets s) (eqb (length s) 4) (is_valid s) (eqb (field_at virtual_channel s) own.channel) refl refl
  where
    by : (o a b c : Bool) → are_octets s ≡ o → eqb (length s) 4 ≡ a
        → ReportMost (word_received (pick o (must a (Err Length) (must b (Ok None) (must c (Err Address) (Ok (Some (received_of s)))))) (Err Length)))
    by true true true true p q =
        let at : (i : ℕ) → get_or s i 0 < 256 = octets_at_lem s (octets_are s p) in
        let e : (word_of s).report ≡ get_or s 3 0 = ap (λ (x : Clcw). x.report) (word_is s (eqb-true (length s) 4 q) at) in
        omega (arith, e, at 3)
    by true true true false p q = tt
    by true true false c p q = tt
    by true false b c p q = tt
    by false a b c p q = tt
