use Rattle.std.proofs.Common.{subst, sym, ap, inl, ◌∙◌, length, length-append, arith}
use Rattle.std.proofs.lemmas.Result.{err_from_is_err_and}
use Rattle.ep_packet.specs.Frame.{any_ip}
use Rattle.ep_packet.specs.FrameRefusals.{ip_content_refusal, ip_refusal}
use Rattle.ep_packet.specs.ShownBytes.{net_slice_bytes}
use Rattle.ep_packet.proofs.NetWalkLemmas.{IsShown, ip_shown, net_holds, net_refused}
use Rattle.ep_packet.proofs.sliced_packet_walk.fill_ip.Goals as goal

pub fill_transport-requires-clause-headers : goal.fill_transport-requires-clause-headers
fill_transport-requires-clause-headers c =
    let ok = c.in-Ok.ensures.ok in
    let shown = subst (IsShown any_ip c.args.slice.now) (sym c.from-layer.ensures)
    (ip_shown c.args.slice.now ok.0 c.in-Ok.packet ok.1 ok.2) in
    shown.headers

pub returns-in_err-fill_transport-clause-err : goal.returns-in_err-fill_transport-clause-err
returns-in_err-fill_transport-clause-err c =
    let ok = c.in-Ok.ensures.ok in
    let shown = subst (IsShown any_ip c.args.slice.now) (sym c.from-layer.ensures)
    (ip_shown c.args.slice.now ok.0 c.in-Ok.packet ok.1 ok.2) in
    let refused = net_refused any_ip 0 c.args.slice.now c.from-layer.result c.in_err-fill_transport.field-0.0 shown
    c.in_err-fill_transport.ensures.err in
    let left = err_from_is_err_and c.from_residual.result c.from_residual.ensures.1 in
    rw (left.1, left.2) refused

pub returns-clause-ok : goal.returns-clause-ok
returns-clause-ok c =
    let ok = c.in-Ok.ensures.ok in
    let shown = subst (IsShown any_ip c.args.slice.now) (sym c.from-layer.ensures)
    (ip_shown c.args.slice.now ok.0 c.in-Ok.packet ok.1 ok.2) in
    net_holds any_ip c.args.slice.now c.from-layer.result c.fill_transport.new.transport shown
    c.in_ok-fill_transport.ensures.ok c.in_ok-fill_transport.ensures.bytes

pub returns-in-Ip-clause-err : goal.returns-in-Ip-clause-err
returns-in-Ip-clause-err c =
    let found = c.in-Err-IpHeaders in
    let named = ap (ip_refusal 0) found.field-0-is ∙ ap ip_content_refusal c.in-Ip.is in
    inl (found.field-0, found.ensures.err, sym named)

pub returns-in-Ipv4Ext-clause-err : goal.returns-in-Ipv4Ext-clause-err
returns-in-Ipv4Ext-clause-err c =
    let found = c.in-Err-IpHeaders in
    let named = ap (ip_refusal 0) found.field-0-is ∙ ap ip_content_refusal c.in-Ipv4Ext.is in
    inl (found.field-0, found.ensures.err, sym named)

pub returns-in-Ipv6Ext-clause-err : goal.returns-in-Ipv6Ext-clause-err
returns-in-Ipv6Ext-clause-err c =
    let found = c.in-Err-IpHeaders in
    let named = ap (ip_refusal 0) found.field-0-is ∙ ap ip_content_refusal c.in-Ipv6Ext.is in
    inl (found.field-0, found.ensures.err, sym named)

pub fill_transport-requires-clause-place : goal.fill_transport-requires-clause-place
fill_transport-requires-clause-place c =
    let ok = c.in-Ok.ensures.ok in
    let shown = subst (IsShown any_ip c.args.slice.now) (sym c.from-layer.ensures)
    (ip_shown c.args.slice.now ok.0 c.in-Ok.packet ok.1 ok.2) in
    omega (arith, ap length shown.begins, length-append (net_slice_bytes c.from-layer.result) shown.left)
