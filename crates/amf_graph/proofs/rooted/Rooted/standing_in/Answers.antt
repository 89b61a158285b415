-- What has stand-ins has them at every node, and what is made of it is a graph.
use Rattle.std.proofs.Common.{◌≡◌, length, sym, subst}
use Rattle.std.specs.List.{AllByRecursion}
use Rattle.amf_graph.specs.Arena.{Names}
use Rattle.amf_graph.specs.Rooted.{RootedArena}
use Rattle.amf_graph.specs.TextRanks.{AreRanks}
use Rattle.amf_graph.proofs.StandInGraphs.{has_stand_in, all_have, names_stand, finished_stands, bounds_stand, graph_stands}
use Rattle.amf_graph.proofs.rooted.Rooted.standing_in.Goals as goal

pub standing_in-requires-clause-stand_ins : goal.standing_in-requires-clause-stand_ins
standing_in-requires-clause-stand_ins c =
    let g : RootedArena = record { arena = c.self.inside.store; root = c.self.inside.root } in
    let all : length c.args.stand_ins.now ≡ length g.arena.nodes = subst (λ (w : RootedArena). length c.args.stand_ins.now ≡ length w.arena.nodes) (sym c.self.view_is) c.requires.all in
    all_have g.arena c.args.stand_ins.now all c.self.invariant.0

pub stand_in-requires : goal.stand_in-requires
stand_in-requires c =
    let g : RootedArena = record { arena = c.self.inside.store; root = c.self.inside.root } in
    let all : length c.args.stand_ins.now ≡ length g.arena.nodes = subst (λ (w : RootedArena). length c.args.stand_ins.now ≡ length w.arena.nodes) (sym c.self.view_is) c.requires.all in
    has_stand_in g.arena c.args.stand_ins.now all g.root c.self.invariant.2

pub new-requires-clause-finished : goal.new-requires-clause-finished
new-requires-clause-finished c =
    let g : RootedArena = record { arena = c.self.inside.store; root = c.self.inside.root } in
    let good : AllByRecursion (Names g.arena) c.args.stand_ins.now = subst (λ (w : RootedArena). AllByRecursion (Names w.arena) c.args.stand_ins.now) (sym c.self.view_is) c.requires.names in
    finished_stands g.arena c.args.stand_ins.now c.in_ok-store.store c.in_ok-store.ensures.texts c.in_ok-store.ensures.traits c.in_ok-store.ensures.nodes good c.self.invariant.0

pub new-requires-clause-bounds : goal.new-requires-clause-bounds
new-requires-clause-bounds c =
    let g : RootedArena = record { arena = c.self.inside.store; root = c.self.inside.root } in
    let good : AllByRecursion (Names g.arena) c.args.stand_ins.now = subst (λ (w : RootedArena). AllByRecursion (Names w.arena) c.args.stand_ins.now) (sym c.self.view_is) c.requires.names in
    let all : length c.args.stand_ins.now ≡ length g.arena.nodes = subst (λ (w : RootedArena). length c.args.stand_ins.now ≡ length w.arena.nodes) (sym c.self.view_is) c.requires.all in
    bounds_stand g.arena c.args.stand_ins.now c.in_ok-store.store c.in_ok-store.ensures.texts c.in_ok-store.ensures.traits c.in_ok-store.ensures.nodes good c.self.invariant.0 all c.self.invariant.1

pub new-requires-clause-names : goal.new-requires-clause-names
new-requires-clause-names c =
    let g : RootedArena = record { arena = c.self.inside.store; root = c.self.inside.root } in
    let good : AllByRecursion (Names g.arena) c.args.stand_ins.now = subst (λ (w : RootedArena). AllByRecursion (Names w.arena) c.args.stand_ins.now) (sym c.self.view_is) c.requires.names in
    names_stand g.arena c.args.stand_ins.now c.in_ok-store.store c.in_ok-store.ensures.texts c.in_ok-store.ensures.traits c.in_ok-store.ensures.nodes good g.root c.stand_in.result c.stand_in.ensures c.self.invariant.2

pub returns : goal.returns
returns c =
    let g : RootedArena = record { arena = c.self.inside.store; root = c.self.inside.root } in
    graph_stands c.args.stand_ins.now g c.args.self.now c.new.result c.in_ok-store.store c.stand_in.result c.new.ensures c.self.view_is c.stand_in.ensures c.in_ok-store.ensures.texts c.in_ok-store.ensures.traits c.in_ok-store.ensures.nodes

pub new-requires-clause-ranks : goal.new-requires-clause-ranks
new-requires-clause-ranks c =
    subst (λ w. AreRanks w c.in_ok-ranks.ranks.by_text.items) (sym c.in_ok-store.ensures.texts) (subst (AreRanks c.self.inside.store.texts) (sym c.in_ok-ranks.ensures) c.self.invariant.3)
