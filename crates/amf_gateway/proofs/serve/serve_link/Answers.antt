use Rattle.amf_gateway.proofs.serve.serve_link.Goals as goal

pub returns-clause-served : goal.returns-clause-served
returns-clause-served g c = c.serve_link_keyed.ensures.served
