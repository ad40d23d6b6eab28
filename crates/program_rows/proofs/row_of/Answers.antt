use Rattle.std.proofs.Common.{◌≡◌, refl, arith, ◌∷◌, ◌++◌, [], ◌∙◌}
use Rattle.std.proofs.lemmas.Grind.{common_steps}
use Rattle.text.specs.Buffer.{standing}
use Rattle.text.specs.Decimal.{decimal}
use Rattle.text.specs.Fields.{tab, newline}
use Rattle.text.proofs.Buffers.{put_fits}
use Rattle.program_rows.specs.Rows.{text_of, joined}
use Rattle.program_rows.proofs.Told.{row_joined}
use Rattle.program_rows.proofs.row_of.Goals as goal

-- each part fits, and the parts are the fields joined
pub returns : goal.returns
unfolding text_of
returns c =
    let v = c.args.v in
    let name = c.number_of.result in
    let state = c.state_name.result in
    let flags = c.flag.result ∷ c.flag-2.result ∷ c.flag-3.result ∷ [] in
    let one = c.put.ensures ∙ put_fits 20 (standing c.new-row.result) (0x45 ∷ []) (grind (arith, common_steps)) in
    let two = c.put-2.ensures ∙ put_fits 20 (standing c.put_number.new.row) (tab ∷ []) (grind (arith, common_steps)) in
    let three = c.put-3.ensures ∙ put_fits 20 (standing c.put-2.new.self) state (grind (arith, common_steps)) in
    let four = c.put-4.ensures ∙ put_fits 20 (standing c.put-3.new.self) (tab ∷ []) (grind (arith, common_steps)) in
    let five = c.put-5.ensures ∙ put_fits 20 (standing c.put_number-2.new.row) (tab ∷ flags ++ (tab ∷ [])) (grind (arith, common_steps)) in
    let six = c.put-6.ensures ∙ put_fits 20 (standing c.put_number-3.new.row) (newline ∷ []) (grind (arith, common_steps)) in
    let all : standing c.put-6.new.self ≡ joined ((0x45 ∷ decimal name) ∷ state ∷ decimal v.vr ∷ flags ∷ decimal v.counter ∷ []) =
    rw (six, c.put_number-3.ensures.text, five, c.put_number-2.ensures.text, four, three, two, c.put_number.ensures.text, one, c.new-row.ensures)
    (row_joined (decimal name) state (decimal v.vr) (decimal v.counter) c.flag.result c.flag-2.result c.flag-3.result) in
    all ∙ rw (c.number_of.ensures, c.state_name.ensures, c.flag.ensures, c.flag-2.ensures, c.flag-3.ensures) refl
