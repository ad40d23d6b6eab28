-- An event by its number is that event.
use mathlib.Core.Path.{◌≡◌, refl}
use mathlib.Core.Option.{some}
use Rattle.fop.specs.declared.Event.{Event as FopEvent}
use Rattle.fop.specs.declared.Event.TheVariants.{E1, E2, E3, E4, E5, E6, E7, E8, E9, E10, E11, E12, E13, E14, E15, E16, E17, E18, E19, E20, E21, E22, E23, E24, E25, E26, E27, E28, E29, E30, E31, E32, E33, E34}
use Rattle.fop.specs.declared.Event.TheVariants.{E35, E36, E37, E38, E39, E40, E41, E42, E43, E44, E45, E46, E101, E102, E103, E104}
use Rattle.fop.specs.Table.{event_of, event_number}

pub number_event : (e : FopEvent) → event_of (event_number e) ≡ some e
unfolding event_of
number_event E1 = refl
number_event E2 = refl
number_event E3 = refl
number_event E4 = refl
number_event E5 = refl
number_event E6 = refl
number_event E7 = refl
number_event E8 = refl
number_event E9 = refl
number_event E10 = refl
number_event E11 = refl
number_event E12 = refl
number_event E13 = refl
number_event E14 = refl
number_event E15 = refl
number_event E16 = refl
number_event E17 = refl
number_event E18 = refl
number_event E19 = refl
number_event E20 = refl
number_event E21 = refl
number_event E22 = refl
number_event E23 = refl
number_event E24 = refl
number_event E25 = refl
number_event E26 = refl
number_event E27 = refl
number_event E28 = refl
number_event E29 = refl
number_event E30 = refl
number_event E31 = refl
number_event E32 = refl
number_event E33 = refl
number_event E34 = refl
number_event E35 = refl
number_event E36 = refl
number_event E37 = refl
number_event E38 = refl
number_event E39 = refl
number_event E40 = refl
number_event E41 = refl
number_event E42 = refl
number_event E43 = refl
number_event E44 = refl
number_event E45 = refl
number_event E46 = refl
number_event E101 = refl
number_event E102 = refl
number_event E103 = refl
number_event E104 = refl
