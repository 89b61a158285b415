use Rattle.std.proofs.Common.{ℕ, Bool, List, ◌++◌, [], map, ap, ◌∙◌}
use Rattle.std.specs.Prelude.{cond, codes}
use Rattle.std.specs.List.{zip}
use Rattle.amf_graph.specs.Arena.{traits_at}
use Rattle.amf_iso.specs.Contents.{values_of}
use Rattle.amf_show.specs.ByLister.{pairs_by}
use Rattle.amf_show.specs.Shown.{joined, braced, shown_text}
use Rattle.amf_show.specs.Listing.{shown_pair}
use Rattle.amf_show.proofs.Headed.{braced_behind}
use Rattle.amf_show.proofs.Held.{on_ok}
use Rattle.amf_show.proofs.lister.Lister.push_known.Goals as goal

pub returns : goal.returns
returns c =
    let l = c.args.self.now in
    let a = l.graph.now.arena in
    let t = traits_at a c.args.class.now.traits.0 in
    let o = c.args.out.now.items in
    let front = codes "object " ++ shown_text t.class ++ codes " sealed " in
    let inside = joined (map (shown_pair l.numbering.now) (zip t.sealed (values_of a c.args.sealed.now))) in
    let rest : Bool → List ℕ = λ f. cond f (codes " dynamic " ++ pairs_by l c.args.members.now) [] in
    let one = c.in_ok-push.ensures ∙ ap (λ w. o ++ w) c.requires.text.0 in
    on_ok c.push_members.result (λ d. braced_behind o front inside (rest c.args.class.now.dynamic) _ c.push_headed.new.out.items c.push_word.new.out.items c.push_members.new.out.items one c.in_ok-push_headed.ensures c.in_ok-push_word.ensures d ∙ ap (λ (f : Bool). o ++ (front ++ braced inside ++ rest f)) c.requires.text.2) c.push_members.ensures
