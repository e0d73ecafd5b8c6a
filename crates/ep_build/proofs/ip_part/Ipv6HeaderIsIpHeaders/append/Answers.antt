use Rattle.std.proofs.Common.{◌≡◌, ◌++◌, List, ℕ, length, sym, ap, ◌∙◌, arith}
use Rattle.std.specs.Prelude.{is_ok}
use Rattle.std.proofs.lemmas.List.{append-nil}
use Rattle.ep_ip.specs.Ipv6.{ipv6_bytes}
use Rattle.ep_packet.specs.IpHeaders.{ip_headers_len}
use Rattle.ep_build.specs.Steps.{plain_ipv6}
use Rattle.ep_build.proofs.SizeLemmas.{headers_len}
use Rattle.ep_build.proofs.WritingLemmas.{on_ok, succeeds}
use Rattle.ep_build.proofs.ip_part.Ipv6HeaderIsIpHeaders.append.Goals as goal

pub unwrap-requires : goal.unwrap-requires
unwrap-requires c =
    let bytes = ipv6_bytes c.args.self.now in
    let len : length bytes ≡ ip_headers_len (plain_ipv6 c.args.self.now) =
    sym (ap length (append-nil bytes)) ∙ headers_len (plain_ipv6 c.args.self.now) c.write.ensures.fits in
    succeeds c.write.result _ _ c.write.ensures.full (omega (arith, c.requires.capacity, len))

pub returns-clause-items : goal.returns-clause-items
returns-clause-items c =
    let bytes = ipv6_bytes c.args.self.now in
    on_ok c.write.result _ (ap is_ok c.unwrap.ensures) c.write.ensures.ok
    ∙ ap (λ (l : List ℕ). c.args.buf.now.items ++ l) (sym (append-nil bytes))
