use Rattle.std.proofs.Common.{[], ap₂, sym, subst, ◌∙◌}
use Rattle.ep_base.specs.Tables.{parts_of}
use Rattle.ep_transport.specs.Icmpv4.{IsIcmpv4}
use Rattle.ep_transport.proofs.icmpv4_header.Icmpv4Header.from_slice.Goals as goal

pub returns-in_err-message-clause-only : goal.returns-in_err-message-clause-only
returns-in_err-message-clause-only c message is = absurd (c.in_err-message.ensures.only message is)

pub returns-clause-ok : goal.returns-clause-ok
returns-clause-ok c =
    let header = sym c.to_header.ensures in
    let payload = sym c.payload.ensures in
    subst (IsIcmpv4 c.args.slice.now) (λ i. parts_of (header i) (payload i) []) c.in_ok-message.ensures.ok.2

pub returns-clause-only : goal.returns-clause-only
returns-clause-only c message is =
    ap₂ (λ header payload. parts_of header payload []) c.to_header.ensures c.payload.ensures
    ∙ c.in_ok-message.ensures.only message is
