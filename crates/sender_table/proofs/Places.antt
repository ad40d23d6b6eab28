-- A row stands at every event's place, and a cell in every state's column.
use mathlib.Core.Path.{◌≡◌, refl}
use Prim.Native.Nat.{◌<◌}
use lib.Dec.{T, ltb, ltb→lt}
use lib.ListN.{get_or}
use Rattle.fop.specs.declared.Event.{Event as FopEvent}
use Rattle.fop.specs.declared.Event.TheVariants.{E1, E2, E3, E4, E5, E6, E7, E8, E9, E10, E11, E12, E13, E14, E15, E16, E17, E18, E19, E20, E21, E22, E23, E24, E25, E26, E27, E28, E29, E30, E31, E32, E33, E34, E35, E36, E37, E38, E39, E40, E41, E42, E43, E44, E45, E46, E101, E102, E103, E104}
use Rattle.fop.specs.Table.{events}
use Rattle.sender_table.specs.Cells.{place_of}

-- an event stands at its place, and the place is one of the events'
abbrev Placed : FopEvent → Type 0
Placed e = (get_or events (place_of e) E1 ≡ e) × T (ltb (place_of e) 50)

placed : (e : FopEvent) → Placed e
placed E1 = (refl, tt)
placed E2 = (refl, tt)
placed E3 = (refl, tt)
placed E4 = (refl, tt)
placed E5 = (refl, tt)
placed E6 = (refl, tt)
placed E7 = (refl, tt)
placed E8 = (refl, tt)
placed E9 = (refl, tt)
placed E10 = (refl, tt)
placed E11 = (refl, tt)
placed E12 = (refl, tt)
placed E13 = (refl, tt)
placed E14 = (refl, tt)
placed E15 = (refl, tt)
placed E16 = (refl, tt)
placed E17 = (refl, tt)
placed E18 = (refl, tt)
placed E19 = (refl, tt)
placed E20 = (refl, tt)
placed E21 = (refl, tt)
placed E22 = (refl, tt)
placed E23 = (refl, tt)
placed E24 = (refl, tt)
placed E25 = (refl, tt)
placed E26 = (refl, tt)
placed E27 = (refl, tt)
placed E28 = (refl, tt)
placed E29 = (refl, tt)
placed E30 = (refl, tt)
placed E31 = (refl, tt)
placed E32 = (refl, tt)
placed E33 = (refl, tt)
placed E34 = (refl, tt)
placed E35 = (refl, tt)
placed E36 = (refl, tt)
placed E37 = (refl, tt)
placed E38 = (refl, tt)
placed E39 = (refl, tt)
placed E40 = (refl, tt)
placed E41 = (refl, tt)
placed E42 = (refl, tt)
placed E43 = (refl, tt)
placed E44 = (refl, tt)
placed E45 = (refl, tt)
placed E46 = (refl, tt)
placed E101 = (refl, tt)
placed E102 = (refl, tt)
placed E103 = (refl, tt)
placed E104 = (refl, tt)

pub event_there : (e : FopEvent) → get_or events (place_of e) E1 ≡ e
event_there e = (placed e).0

pub place_below : (e : FopEvent) → place_of e < 50
place_below e = ltb→lt _ _ (placed e).1
