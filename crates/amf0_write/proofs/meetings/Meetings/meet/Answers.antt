use Rattle.std.proofs.Common.{◌≡◌, ◌∷◌, ◌++◌, [], ◌<◌, length, set, slice_get, true, Some, sym, subst}
use Rattle.std.proofs.lemmas.Option.{slice_get_read}
use Rattle.amf_graph.specs.Arena.{Names, value_content}
use Rattle.amf0_write.specs.Meetings.{AreMet}
use Rattle.amf0_write.proofs.MeetingSteps.{node_met, value_met}
use Rattle.amf0_write.proofs.meetings.Meetings.meet.Goals as goal

pub returns-in-Node : goal.returns-in-Node
returns-in-Node c = record {
  met = λ a met h k.
      let seen = c.args.self.now.seen.items in
      let again = c.args.self.now.again.items in
      let i = c.in-Node.node.0 in
      let b = c.index.result.now in
      let within : i < length a.nodes = subst (Names a) c.in-Node.is h in
      let read : slice_get seen i ≡ Some b = slice_get_read seen (length a.nodes) i b (sym k.seen_all) within c.index.ensures in
      subst (λ v. AreMet (length a.nodes) (met ++ value_content a v ∷ []) (set seen i true) (set again i b)) (sym c.in-Node.is) (node_met (length a.nodes) met seen again i b within read k);
}

pub returns-in_default : goal.returns-in_default
returns-in_default c = record { met = λ a met h k. value_met a c.args.value (length a.nodes) met c.args.self.now.seen.items c.args.self.now.again.items c.in_default.not-Node k }
