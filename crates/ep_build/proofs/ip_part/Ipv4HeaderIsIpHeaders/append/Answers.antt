use Rattle.std.proofs.Common.{◌≡◌, ◌++◌, List, ℕ, length, sym, ap, ◌∙◌, arith}
use Rattle.std.specs.Prelude.{is_ok}
use Rattle.std.proofs.lemmas.List.{append-nil}
use Rattle.ep_ip.specs.Ipv4.{ipv4_bytes, ipv4_checksum}
use Rattle.ep_packet.specs.IpHeaders.{ip_headers_len}
use Rattle.ep_build.specs.Steps.{plain_ipv4}
use Rattle.ep_build.proofs.SizeLemmas.{headers_len}
use Rattle.ep_build.proofs.WritingLemmas.{on_ok, succeeds}
use Rattle.ep_build.proofs.ip_part.Ipv4HeaderIsIpHeaders.append.Goals as goal

pub unwrap-requires : goal.unwrap-requires
unwrap-requires c =
    let bytes = ipv4_bytes (record c.args.self.now { header_checksum = ipv4_checksum c.args.self.now }) in
    let len : length bytes ≡ ip_headers_len (plain_ipv4 c.args.self.now) =
    sym (ap length (append-nil bytes)) ∙ headers_len (plain_ipv4 c.args.self.now) c.write.ensures.fits in
    succeeds c.write.result _ _ c.write.ensures.full (omega (arith, c.requires.capacity, len))

pub returns-clause-items : goal.returns-clause-items
returns-clause-items c =
    let bytes = ipv4_bytes (record c.args.self.now { header_checksum = ipv4_checksum c.args.self.now }) in
    on_ok c.write.result _ (ap is_ok c.unwrap.ensures) c.write.ensures.ok
    ∙ ap (λ (l : List ℕ). c.args.buf.now.items ++ l) (sym (append-nil bytes))
