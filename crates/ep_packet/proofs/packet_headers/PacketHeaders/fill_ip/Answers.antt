use Rattle.std.proofs.Common.{◌≡◌, refl, inl, arith}
use Rattle.std.proofs.lemmas.Result.{IfOk-weaker, IfErr-weaker}
use Rattle.ep_base.specs.declared.err.ip.HeadersError.TheVariants as content
use Rattle.ep_base.specs.declared.err.ip.HeadersSliceError.TheVariants as headers_error
use Rattle.ep_packet.specs.Frame.{any_ip}
use Rattle.ep_packet.specs.PacketHeaders.{headers_of}
use Rattle.ep_packet.proofs.HeadersLemmas.{fills_ip, ip_content_refused, ip_refused}
use Rattle.ep_packet.proofs.packet_headers.PacketHeaders.fill_ip.Goals as goal

pub returns-in-Ipv6Ext-clause-err : goal.returns-in-Ipv6Ext-clause-err
returns-in-Ipv6Ext-clause-err c =
    let error = c.in-Err-Content in
    let is : error.field-0 ≡ headers_error.Content (content.Ipv6Ext c.in-Ipv6Ext.error) =
    cc (error.field-0-is, c.in-Ipv6Ext.is) in
    inl (ip_content_refused c.args.slice.now error.field-0 (content.Ipv6Ext c.in-Ipv6Ext.error) error.ensures.err is)

pub returns-clause-ok : goal.returns-clause-ok
returns-clause-ok c =
    let old = headers_of c.args.self.now in
    let ok = c.in-Ok.ensures.ok in
    IfOk-weaker c.fill_transport.result _ _
    (λ done fills. fills_ip any_ip c.args.slice.now ok.0 _ _ _ old (headers_of c.fill_transport.new.self)
    (ok.0, ok.1, refl) ok.2 fills)
    c.fill_transport.ensures.ok

pub returns-clause-err : goal.returns-clause-err
returns-clause-err c =
    let ok = c.in-Ok.ensures.ok in
    IfErr-weaker c.fill_transport.result _ _
    (λ error refused. ip_refused any_ip c.args.slice.now ok.0 _ _ 0 _ _ error (ok.0, ok.1, refl) ok.2
    (omega arith) refused)
    c.fill_transport.ensures.err
