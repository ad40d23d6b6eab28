-- The event told picks the function that serves it.
use Rattle.sender.specs.Events.{event_of}
use Rattle.sender.proofs.Judged.{event_told}
use Rattle.sender.proofs.Sender.event.Goals as goal

pub returns-in-RequestAd : goal.returns-in-RequestAd
unfolding event_of
returns-in-RequestAd c =
    let a = c.args in
    let p = event_told a.event a.octets.now a.self.fop a.store.now a.output.now c.in-RequestAd.is (c.request_ad.ensures.answer, (c.request_ad.ensures.store, c.request_ad.ensures.output)) in record { answer = p.0; store = p.1.0; output = p.1.1 }

pub returns-in-RequestBd : goal.returns-in-RequestBd
unfolding event_of
returns-in-RequestBd c =
    let a = c.args in
    let p = event_told a.event a.octets.now a.self.fop a.store.now a.output.now c.in-RequestBd.is (c.request_bd.ensures.answer, (c.request_bd.ensures.store, c.request_bd.ensures.output)) in record { answer = p.0; store = p.1.0; output = p.1.1 }

pub returns-in-Tick : goal.returns-in-Tick
unfolding event_of
returns-in-Tick c =
    let a = c.args in
    let p = event_told a.event a.octets.now a.self.fop a.store.now a.output.now c.in-Tick.is (c.tick.ensures.answer, (c.tick.ensures.store, c.tick.ensures.output)) in record { answer = p.0; store = p.1.0; output = p.1.1 }

pub returns-in-LowerLayer : goal.returns-in-LowerLayer
unfolding event_of
returns-in-LowerLayer c =
    let a = c.args in
    let p = event_told a.event a.octets.now a.self.fop a.store.now a.output.now c.in-LowerLayer.is (c.lower_layer.ensures.answer, (c.lower_layer.ensures.store, c.lower_layer.ensures.output)) in record { answer = p.0; store = p.1.0; output = p.1.1 }

pub returns-in-Directive : goal.returns-in-Directive
unfolding event_of
returns-in-Directive c =
    let a = c.args in
    let p = event_told a.event a.octets.now a.self.fop a.store.now a.output.now c.in-Directive.is (c.directive.ensures.answer, (c.directive.ensures.store, c.directive.ensures.output)) in record { answer = p.0; store = p.1.0; output = p.1.1 }

pub returns-in-ControlWord : goal.returns-in-ControlWord
unfolding event_of
returns-in-ControlWord c =
    let a = c.args in
    let p = event_told a.event a.octets.now a.self.fop a.store.now a.output.now c.in-ControlWord.is (c.control_word.ensures.answer, (c.control_word.ensures.store, c.control_word.ensures.output)) in record { answer = p.0; store = p.1.0; output = p.1.1 }
