use Rattle.std.proofs.Common.{◌≡◌, ◌<◌, ◌++◌, [], length, sym, ◌∙◌, subst}
use Rattle.std.proofs.lemmas.List.{append-nil, nil_from_length}
use Rattle.amf_text_write.specs.Pieces.{piece_tokens}
use Rattle.amf_text_write.specs.Walk.{Leads, left_in, alone}
use Rattle.amf_text_write.specs.Ways.{arena_in, graph_in}
use Rattle.amf_text_write.proofs.Leading.{leads_same, leads_then, leads_from, leads_end}
use Rattle.amf_text_write.proofs.Stacks.{left_popped, pieces_popped}
use Rattle.amf_text_write.proofs.layout.Output.drain.Goals as goal

pub loop-piece-init : goal.loop-piece-init
loop-piece-init c = record {
  leads = λ w is. leads_same (left_in c.args.way.now c.args.waiting.now.items w) c.args.self.now;
  pieces = c.requires;
}

pub piece-requires : goal.piece-requires
piece-requires c = (pieces_popped (arena_in c.args.way.now) c.pop.new.self.items c.loop-piece.waiting.items c.in-Some.piece c.in-Some.ensures.items c.loop-piece.invariant.pieces).1

pub loop-piece-preserved : goal.loop-piece-preserved
loop-piece-preserved c =
    let k = c.args.way.now in
    let g = graph_in k in
    let a = arena_in k in
    let p = c.in-Some.piece in
    let rest = c.pop.new.self.items in
    let all = c.loop-piece.waiting.items in
    record {
      leads = λ w is.
          leads_then (left_in k c.args.waiting.now.items w) (left_in k all w) (left_in k c.piece.new.waiting.items w) c.args.self.now c.loop-piece.self c.piece.new.self (c.loop-piece.invariant.leads w is)
          (leads_from (left_in k all w) (piece_tokens g a p w ++ left_in k rest w) (left_in k c.piece.new.waiting.items w) c.loop-piece.self c.piece.new.self (left_popped g a rest all p w c.in-Some.ensures.items) (c.in_ok-piece.ensures.leads w is));
      pieces = c.in_ok-piece.ensures.pieces (pieces_popped a rest all p c.in-Some.ensures.items c.loop-piece.invariant.pieces).0;
    }

pub returns : goal.returns
returns c = λ w is.
    let k = c.args.way.now in
    let whole = left_in k c.args.waiting.now.items w in
    let none : c.pop.new.self.items ≡ [] = nil_from_length c.pop.new.self.items (sym c.pop.new.self.ok.0 ∙ c.in_default.ensures.cases.1) in
    let empty : c.loop-piece.waiting.items ≡ [] = c.in_default.ensures.items ∙ append-nil c.pop.new.self.items ∙ none in
    leads_end whole c.args.self.now c.loop-piece.self (subst (λ l. Leads whole (left_in k l w) c.args.self.now c.loop-piece.self) empty (c.loop-piece.invariant.leads w is))

pub loop-piece-smaller : goal.loop-piece-smaller
loop-piece-smaller c =
    let k = c.args.way.now in
    subst (λ l. length (left_in k c.piece.new.waiting.items alone) < length l) (sym (left_popped (graph_in k) (arena_in k) c.pop.new.self.items c.loop-piece.waiting.items c.in-Some.piece alone c.in-Some.ensures.items)) c.in_ok-piece.ensures.fewer
