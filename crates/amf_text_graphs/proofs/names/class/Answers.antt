use Rattle.amf_text_graphs.proofs.Classes.{class_ok}
use Rattle.amf_text_graphs.proofs.names.class.Goals as goal

pub returns-clause-shows : goal.returns-clause-shows
returns-clause-shows c =
    class_ok c.args.book.now c.text.new.self c.traits.new.self c.args.name.now c.in_ok-class.class c.args.dynamic c.args.sealed.now c.traits.result c.in_ok-class.ensures.ok c.in_ok-class.ensures.id c.traits.ensures.id c.traits.ensures.ok
