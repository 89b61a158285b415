use Rattle.std.proofs.Common.{◌∷◌, []}
use Rattle.amf_graph.specs.Isomorphic.{StandIn}
use Rattle.amf_graph.specs.Rooted.{content}
use Rattle.amf_graph.specs.Views.{flat}
use Rattle.amf_iso.specs.Walking.{NodePair, AllMatch, StoredMatch, PartsMatch}
use Rattle.amf_iso.proofs.Held.{view_is, held, values_held}
use Rattle.amf_iso.proofs.Meeting.{met_always, ok_met_same}
use Rattle.amf_graph.specs.declared.views.NodeView.TheVariants as view
use Rattle.amf_iso.proofs.SeenKinds.{leaves_held, same_kind}
use Rattle.amf_iso.proofs.compare.parts_meet.Goals as goal

pub returns-in-Array-Array : goal.returns-in-Array-Array
returns-in-Array-Array c =
    let l = c.args.graphs.now.left.now in
    let r = c.args.graphs.now.right.now in
    let w = c.in-Array-Array in
    ok_met_same l.arena r.arena c.both_meet.result c.args.walk.now c.both_meet.new.walk (NodePair (content l) (content r) c.args.i.0 c.args.j.0) (PartsMatch l.arena r.arena w.ps.now w.qs.now w.vs.now w.ws.now) (λ pairs. held (StandIn pairs) l.arena r.arena l.root r.root c.args.i.0 c.args.j.0 _ _ (view_is l.arena c.args.i.0 _ _ w.is-0 c.requires.left_view) (view_is r.arena c.args.j.0 _ _ w.is-1 c.requires.right_view) c.requires.head) c.both_meet.ensures

pub returns-in-Object-Object : goal.returns-in-Object-Object
returns-in-Object-Object c =
    let l = c.args.graphs.now.left.now in
    let r = c.args.graphs.now.right.now in
    let w = c.in-Object-Object in
    ok_met_same l.arena r.arena c.both_meet-in-Object-Object.result c.args.walk.now c.both_meet-in-Object-Object.new.walk (NodePair (content l) (content r) c.args.i.0 c.args.j.0) (PartsMatch l.arena r.arena w.ps.now w.qs.now w.vs.now w.ws.now) (λ pairs. held (StandIn pairs) l.arena r.arena l.root r.root c.args.i.0 c.args.j.0 _ _ (view_is l.arena c.args.i.0 _ _ w.is-0 c.requires.left_view) (view_is r.arena c.args.j.0 _ _ w.is-1 c.requires.right_view) c.requires.head) c.both_meet-in-Object-Object.ensures

pub returns-in-Values-Values : goal.returns-in-Values-Values
returns-in-Values-Values c =
    let l = c.args.graphs.now.left.now in
    let r = c.args.graphs.now.right.now in
    let w = c.in-Values-Values in
    ok_met_same l.arena r.arena c.all_meet.result c.args.walk.now c.all_meet.new.walk (NodePair (content l) (content r) c.args.i.0 c.args.j.0) (AllMatch l.arena r.arena w.vs.now w.ws.now) (λ pairs. values_held (StandIn pairs) l.arena r.arena l.root r.root c.args.i.0 c.args.j.0 _ _ w.vs.now w.ws.now (view_is l.arena c.args.i.0 _ _ w.is-0 c.requires.left_view) (view_is r.arena c.args.j.0 _ _ w.is-1 c.requires.right_view) c.requires.head) c.all_meet.ensures

pub returns-in-Dictionary-Dictionary : goal.returns-in-Dictionary-Dictionary
returns-in-Dictionary-Dictionary c =
    let l = c.args.graphs.now.left.now in
    let r = c.args.graphs.now.right.now in
    let w = c.in-Dictionary-Dictionary in
    ok_met_same l.arena r.arena c.all_entries_meet.result c.args.walk.now c.all_entries_meet.new.walk (NodePair (content l) (content r) c.args.i.0 c.args.j.0) (AllMatch l.arena r.arena (flat w.es.now) (flat w.fs.now)) (λ pairs. values_held (StandIn pairs) l.arena r.arena l.root r.root c.args.i.0 c.args.j.0 _ _ (flat w.es.now) (flat w.fs.now) (view_is l.arena c.args.i.0 _ _ w.is-0 c.requires.left_view) (view_is r.arena c.args.j.0 _ _ w.is-1 c.requires.right_view) c.requires.head) c.all_entries_meet.ensures

pub returns-in-Wrapper-Wrapper : goal.returns-in-Wrapper-Wrapper
returns-in-Wrapper-Wrapper c =
    let l = c.args.graphs.now.left.now in
    let r = c.args.graphs.now.right.now in
    let w = c.in-Wrapper-Wrapper in
    ok_met_same l.arena r.arena c.values_meet.result c.args.walk.now c.values_meet.new.walk (NodePair (content l) (content r) c.args.i.0 c.args.j.0) (StoredMatch l.arena r.arena w.v w.w) (λ pairs. let s = values_held (StandIn pairs) l.arena r.arena l.root r.root c.args.i.0 c.args.j.0 _ _ (w.v ∷ []) (w.w ∷ []) (view_is l.arena c.args.i.0 _ _ w.is-0 c.requires.left_view) (view_is r.arena c.args.j.0 _ _ w.is-1 c.requires.right_view) c.requires.head in (λ z. (s.0 z).0, λ y. s.1 (y, tt))) c.values_meet.ensures

pub returns-in_default : goal.returns-in_default
returns-in_default c =
    let l = c.args.graphs.now.left.now in
    let r = c.args.graphs.now.right.now in
    let t = same_kind l.arena r.arena l.root r.root c.args.i.0 c.args.j.0 (view.Array c.in_default.field-0-0 c.in_default.field-1-0) c.args.right (view_is l.arena c.args.i.0 _ _ c.in_default.is-0 c.requires.left_view) c.requires.right_view c.requires.head in
    absurd (c.in_default.not-Array-1 t.0 t.1 t.2)

pub returns-in_default-2 : goal.returns-in_default-2
returns-in_default-2 c =
    let l = c.args.graphs.now.left.now in
    let r = c.args.graphs.now.right.now in
    let t = same_kind l.arena r.arena l.root r.root c.args.i.0 c.args.j.0 (view.Object c.in_default.field-0-0 c.in_default.field-1-0 c.in_default.field-2-0) c.args.right (view_is l.arena c.args.i.0 _ _ c.in_default.is-0 c.requires.left_view) c.requires.right_view c.requires.head in
    absurd (c.in_default.not-Object-1 t.0 t.1 t.2 t.3)

pub returns-in_default-3 : goal.returns-in_default-3
returns-in_default-3 c =
    let l = c.args.graphs.now.left.now in
    let r = c.args.graphs.now.right.now in
    let t = same_kind l.arena r.arena l.root r.root c.args.i.0 c.args.j.0 (view.Wrapper c.in_default.field-0-0 c.in_default.field-1-0) c.args.right (view_is l.arena c.args.i.0 _ _ c.in_default.is-0 c.requires.left_view) c.requires.right_view c.requires.head in
    absurd (c.in_default.not-Wrapper-1 t.0 t.1 t.2)

pub returns-in_default-4 : goal.returns-in_default-4
returns-in_default-4 c =
    let l = c.args.graphs.now.left.now in
    let r = c.args.graphs.now.right.now in
    let t = same_kind l.arena r.arena l.root r.root c.args.i.0 c.args.j.0 (view.Values c.in_default.field-0-0 c.in_default.field-1-0 c.in_default.field-2-0) c.args.right (view_is l.arena c.args.i.0 _ _ c.in_default.is-0 c.requires.left_view) c.requires.right_view c.requires.head in
    absurd (c.in_default.not-Values-1 t.0 t.1 t.2 t.3)

pub returns-in_default-5 : goal.returns-in_default-5
returns-in_default-5 c =
    let l = c.args.graphs.now.left.now in
    let r = c.args.graphs.now.right.now in
    let t = same_kind l.arena r.arena l.root r.root c.args.i.0 c.args.j.0 (view.Dictionary c.in_default.field-0-0 c.in_default.field-1-0) c.args.right (view_is l.arena c.args.i.0 _ _ c.in_default.is-0 c.requires.left_view) c.requires.right_view c.requires.head in
    absurd (c.in_default.not-Dictionary-1 t.0 t.1 t.2)

pub returns-in_default-6 : goal.returns-in_default-6
returns-in_default-6 c =
    let l = c.args.graphs.now.left.now in
    let r = c.args.graphs.now.right.now in
    met_always l.arena r.arena c.args.walk.now (NodePair (content l) (content r) c.args.i.0 c.args.j.0) c.requires.sound
    (λ pairs. leaves_held l.arena r.arena l.root r.root c.args.i.0 c.args.j.0 (StandIn pairs) c.args.left c.args.right c.requires.left_view c.requires.right_view c.requires.head c.in_default.not-Array-0 c.in_default.not-Object-0 c.in_default.not-Wrapper-0 c.in_default.not-Values-0 c.in_default.not-Dictionary-0)
