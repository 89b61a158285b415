use Rattle.std.proofs.Common.{◌∙◌, ap, ◌++◌}
use Rattle.std.proofs.lemmas.Result.{err_from_is_err_and}
use Rattle.amf_client.specs.Asking.{request}
use Rattle.amf_client.proofs.call.write_call_keyed.Goals as goal

pub returns-in_err-send-clause-writes : goal.returns-in_err-send-clause-writes
returns-in_err-send-clause-writes g c = λ told.
    let p = err_from_is_err_and c.from_residual-in_err-send.result c.from_residual-in_err-send.ensures.1 in
    rw (p.1, p.2) (
      c.in_ok-bytes.bytes.items,
      record { packet = c.in_ok-packet.packet.items; spelled = c.in_ok-packet.ensures.spelled; whole = c.in_ok-bytes.ensures ∙ ap (request c.args.port) c.as_slice.ensures.value },
      rw c.as_slice-2.ensures.value at (c.in_err-send.ensures.sends told),
    )

pub returns-clause-writes : goal.returns-clause-writes
returns-clause-writes g c = λ told. (
  c.in_ok-bytes.bytes.items,
  record { packet = c.in_ok-packet.packet.items; spelled = c.in_ok-packet.ensures.spelled; whole = c.in_ok-bytes.ensures ∙ ap (request c.args.port) c.as_slice.ensures.value },
  c.in_ok-send.ensures.sends told ∙ ap (λ l. g.L.Link.held c.args.link.now ++ l) c.as_slice-2.ensures.value,
)

pub returns-in_err-send-clause-asked : goal.returns-in_err-send-clause-asked
returns-in_err-send-clause-asked g c =
    let p = err_from_is_err_and c.from_residual-in_err-send.result c.from_residual-in_err-send.ensures.1 in
    rw (p.1, p.2) (
      c.in_ok-bytes.bytes.items,
      record { packet = c.in_ok-packet.packet.items; spelled = c.in_ok-packet.ensures.spelled; whole = c.in_ok-bytes.ensures ∙ ap (request c.args.port) c.as_slice.ensures.value },
    )

pub returns-clause-asked : goal.returns-clause-asked
returns-clause-asked g c = (c.in_ok-bytes.bytes.items, record { packet = c.in_ok-packet.packet.items; spelled = c.in_ok-packet.ensures.spelled; whole = c.in_ok-bytes.ensures ∙ ap (request c.args.port) c.as_slice.ensures.value })
