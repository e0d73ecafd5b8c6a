use Rattle.std.proofs.Common.{◌≡◌, ℕ, List, ◌++◌, append_assoc, ap, refl, ◌∙◌}
use Rattle.std.proofs.lemmas.Result.{on_ok_weaker}
use Rattle.etherparse.specs.LaxVerdicts.{lax_checksums_of}
use Rattle.etherparse.specs.Types.ChecksumVerdicts.{ChecksumVerdicts}
use Rattle.etherparse.specs.Types.LaxLinkExtSlice.{LaxLinkExtSlice}
use Rattle.packet_text.specs.ChecksumTexts.{header_checksum_text, transport_checksum_text}
use Rattle.packet_text.specs.PacketDetails.{net_details, tags_details}
use Rattle.packet_text.proofs.details.push_details.Goals as goal

pub returns : goal.returns
returns c =
    let packet = c.args.packet.now in
    let start = c.args.output.now.items in
    let tags = tags_details packet.link_exts.items in
    let net = net_details packet.net in
    let header : ChecksumVerdicts → List ℕ = λ verdicts. header_checksum_text verdicts.ipv4_header in
    let sum : ChecksumVerdicts → List ℕ = λ verdicts. transport_checksum_text packet.transport verdicts.transport in
    let verdicts = lax_checksums_of packet in
    let transport = c.in_ok-push_transport_details.ensures in
    let all : ChecksumVerdicts → List ℕ = λ v. ((((start ++ tags) ++ net) ++ header v) ++ transport.0) ++ sum v in
    let together : all verdicts ≡ start ++ (tags ++ net ++ header verdicts ++ transport.0 ++ sum verdicts) =
    simp append_assoc in
    let tagged =
    c.in_ok-push_tags_details.ensures ∙ ap (λ (x : List LaxLinkExtSlice). start ++ tags_details x) c.as_slice.ensures.value in
    let found = c.checksums-verdicts.result in
    on_ok_weaker c.push_transport_checksum.result
    (λ pushed. (
      tags ++ net ++ header verdicts ++ transport.0 ++ sum verdicts,
      (transport.0, transport.1, refl),
      pushed ∙ ap (λ (t : List ℕ). t ++ sum found) transport.2
          ∙ ap (λ (t : List ℕ). (t ++ transport.0) ++ sum found) c.in_ok-push_header_checksum.ensures
          ∙ ap (λ (t : List ℕ). ((t ++ header found) ++ transport.0) ++ sum found) c.in_ok-push_net_details.ensures
          ∙ ap (λ (t : List ℕ). (((t ++ net) ++ header found) ++ transport.0) ++ sum found) tagged
          ∙ ap all c.checksums-verdicts.ensures ∙ together,
    )) c.push_transport_checksum.ensures
