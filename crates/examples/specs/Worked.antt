-- Document 01's worked examples in one table: what a definition gives, beside what the document says.
use Rattle.std.specs.Prelude.{ℕ, false, List, [], ◌∷◌, map}
use Rattle.clcw.specs.Clcw.{clcw_of}
use Rattle.codeblock.specs.Codeblock.{error_control}
use Rattle.frame.specs.Frame.{bypass_of, control_of, number_of, data_of, body_of}
use Rattle.frame.specs.declared.Kind.{Kind}
use Rattle.frame.specs.declared.Kind.TheVariants.{Ad, Unlock, SetVr}
use Rattle.randomizer.specs.Randomizer.{octet}

-- what a definition gives, and what document 01 says
pub record Example : Type 0 where
  pub given : List ℕ
  pub said : List ℕ

-- "Codeblock and CLTU": six information octets alike, the seventh, and the eighth octet
abbrev codeblock : ℕ → ℕ → ℕ → Example
codeblock six seventh eighth = record { given = error_control (six ∷ six ∷ six ∷ six ∷ six ∷ six ∷ seventh ∷ []) ∷ []; said = eighth ∷ [] }

-- "Frame": a frame without its FECF
abbrev frame : ℕ → ℕ → Kind → List ℕ → List ℕ → Example
frame spacecraft channel kind unit said = record {
  given = body_of (bypass_of kind) (control_of kind) (number_of kind) spacecraft channel (data_of kind unit);
  said = said;
}

-- the five codeblocks, the randomizer, the three frames, the CLCW
abbrev pub worked : List Example
worked =
    codeblock 0x00 0x00 0xFE
    ∷ codeblock 0xC5 0xC5 0xFE
    ∷ codeblock 0x00 0x01 0x74
    ∷ codeblock 0x00 0x02 0x60
    ∷ codeblock 0x00 0x03 0xEA
    -- the randomizer's first octets
    ∷ record { given = map octet (0 ∷ 1 ∷ 2 ∷ 3 ∷ 4 ∷ []); said = 0xFF ∷ 0x39 ∷ 0x9E ∷ 0x5A ∷ 0x68 ∷ [] }
    -- Unlock, and Set V(R) to 5, of spacecraft 1, channel 0; an AD frame of spacecraft 2A5 hex, channel 3, N(S) 255, data AB
    ∷ frame 1 0 Unlock [] (0x30 ∷ 0x01 ∷ 0x00 ∷ 0x07 ∷ 0x00 ∷ 0x00 ∷ [])
    ∷ frame 1 0 (SetVr 5) [] (0x30 ∷ 0x01 ∷ 0x00 ∷ 0x09 ∷ 0x00 ∷ 0x82 ∷ 0x00 ∷ 0x05 ∷ [])
    ∷ frame 0x2A5 3 (Ad 255) (0xAB ∷ []) (0x02 ∷ 0xA5 ∷ 0x0C ∷ 0x07 ∷ 0xFF ∷ 0xAB ∷ [])
    -- "CLCW": channel 3, no flags, counter 2, V(R) 17
    ∷ record {
      given = clcw_of (record { channel = 3; lockout = false; wait = false; retransmit = false; counter = 2; report = 17 });
      said = 0x01 ∷ 0x0C ∷ 0x04 ∷ 0x11 ∷ [];
    }
    ∷ []
