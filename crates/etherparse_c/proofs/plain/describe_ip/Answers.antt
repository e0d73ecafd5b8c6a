use Rattle.std.proofs.Common.{◌+◌, length, Some, ap, refl, sym, ◌∙◌}
use Rattle.std.proofs.lemmas.Bool.{eqb-true}
use Rattle.etherparse.specs.Readings.{limited_by}
use Rattle.etherparse.specs.Types.LenSource.{LenSource}
use Rattle.etherparse.specs.TransportParts.{transport_layer_of}
use Rattle.etherparse.specs.Types.TransportSlice.TheVariants as transport
use Rattle.etherparse_c.specs.Description.{part, source_number}
use Rattle.etherparse_c.specs.Plain.{plain_ip}
use Rattle.etherparse_c.proofs.plain.describe_ip.Goals as goal

pub returns-then-eq : goal.returns-then-eq
returns-then-eq c =
    λ done.
    let ip = c.args.ip.now in
    let old = c.args.described.now in
    let ok = c.in-Ok.ensures.ok in
    let offset = c.args.offset + ip.len in
    let end = c.source_number.ensures ∙ ap source_number (c.limited_by.ensures
    ∙ ap (λ (e : LenSource). limited_by ip.end e) c.datagram_end.ensures) in (
      Some (transport_layer_of (transport.Udp c.in-Ok.datagram)),
      (refl, (eqb-true _ _ (sym c.eq.ensures ∙ c.if-eq.true), (ok.0, ok.2))),
      λ i. record {
        link = old.link;
        link_exts = old.link_exts;
        link_ext_count = old.link_ext_count;
        source_port = c.source_port-described.ensures i;
        destination_port = c.destination_port-described.ensures i;
        net = record { kind = c.from-described.ensures i; offset = c.args.offset; len = ip.len };
        ip = plain_ip ip;
        transport = part 17 offset 8;
        payload = record {
          len_source = end i;
          incomplete = 0;
          offset = offset + 8;
          len = length (c.payload.ensures i);
        };
        refusal = old.refusal;
      },
    )

pub returns-then-eq-2 : goal.returns-then-eq-2
returns-then-eq-2 c =
    λ done.
    let ip = c.args.ip.now in
    let old = c.args.described.now in
    let ok = c.in-Ok-from_slice.ensures.ok in
    let offset = c.args.offset + ip.len in (
      Some (transport_layer_of (transport.Tcp c.in-Ok-from_slice.segment)),
      (refl, (eqb-true _ _ (sym c.eq-2.ensures ∙ c.if-eq-2.true), ok.2)),
      λ i. record {
        link = old.link;
        link_exts = old.link_exts;
        link_ext_count = old.link_ext_count;
        source_port = c.source_port-described-then-eq-2.ensures i;
        destination_port = c.destination_port-described-then-eq-2.ensures i;
        net = record { kind = c.from-described.ensures i; offset = c.args.offset; len = ip.len };
        ip = plain_ip ip;
        transport = part 6 offset (20 + length (c.options.ensures.value i));
        payload = record {
          len_source = c.source_number-then-eq-2.ensures i;
          incomplete = 0;
          offset = offset + (20 + length (c.options.ensures.value i));
          len = length (c.payload-then-eq-2.ensures i);
        };
        refusal = old.refusal;
      },
    )
