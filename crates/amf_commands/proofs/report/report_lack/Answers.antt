use Rattle.std.proofs.Common.{◌++◌, ap, ◌∙◌, codes}
use Rattle.std.specs.Fmt.{decimal}
use Rattle.amf_commands.specs.Lines.{kind_name, line_feed}
use Rattle.amf_commands.proofs.Fronts.{seven_written}
use Rattle.amf_commands.proofs.report.report_lack.Goals as goal

pub returns-clause-line : goal.returns-clause-line
returns-clause-line g c = λ told.
    let six = c.write_all-7.ensures.tells told in
    let five = c.in_ok-write_all-6.ensures.tells six in
    let four = c.in_ok-write_all-5.ensures.tells five in
    let three = c.in_ok-write_all-4.ensures.tells four in
    let two = c.in_ok-write_all-3.ensures.tells three in
    let one = c.in_ok-write_all-2.ensures.tells two in
    seven_written c.write_all-7.result (g.E.Sink.held c.args.err.now) (g.E.Sink.held c.write_all.new.sink) (g.E.Sink.held c.write_all-2.new.sink) (g.E.Sink.held c.write_all-3.new.sink) (g.E.Sink.held c.write_all-4.new.sink) (g.E.Sink.held c.write_all-5.new.sink) (g.E.Sink.held c.write_all-6.new.sink) (g.E.Sink.held c.write_all-7.new.sink)
    (codes "amf: no form ") (kind_name c.args.lack.kind) (codes " node ") (decimal c.args.lack.node) (codes " value ") (decimal c.args.value) line_feed
    (c.in_ok-write_all.ensures.writes one)
    (c.in_ok-write_all-2.ensures.writes two ∙ ap (λ l. g.E.Sink.held c.write_all.new.sink ++ l) c.kind_of.ensures)
    (c.in_ok-write_all-3.ensures.writes three)
    (c.in_ok-write_all-4.ensures.writes four ∙ ap (λ l. g.E.Sink.held c.write_all-3.new.sink ++ l) (c.as_bytes.ensures.value ∙ c.format.ensures.text))
    (c.in_ok-write_all-5.ensures.writes five)
    (c.in_ok-write_all-6.ensures.writes six ∙ ap (λ l. g.E.Sink.held c.write_all-5.new.sink ++ l) (c.as_bytes-2.ensures.value ∙ c.format-2.ensures.text))
    (c.write_all-7.ensures.writes told)
