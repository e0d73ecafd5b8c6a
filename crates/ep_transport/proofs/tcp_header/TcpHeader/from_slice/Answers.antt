use Rattle.std.proofs.Common.{[], ap₂, sym, subst, ◌∙◌}
use Rattle.ep_base.specs.Tables.{parts_of}
use Rattle.ep_transport.specs.Tcp.{IsTcp}
use Rattle.ep_transport.proofs.tcp_header.TcpHeader.from_slice.Goals as goal

pub returns-in_err-segment-clause-only : goal.returns-in_err-segment-clause-only
returns-in_err-segment-clause-only c segment is = absurd (c.in_err-segment.ensures.only segment is)

pub returns-clause-ok : goal.returns-clause-ok
returns-clause-ok c =
    let header = sym c.to_header.ensures in
    let payload = sym c.payload.ensures in
    subst (IsTcp c.args.slice.now) (λ i. parts_of (header i) (payload i) []) c.in_ok-segment.ensures.ok.2

pub returns-clause-only : goal.returns-clause-only
returns-clause-only c segment is =
    ap₂ (λ header payload. parts_of header payload []) c.to_header.ensures c.payload.ensures
    ∙ c.in_ok-segment.ensures.only segment is
