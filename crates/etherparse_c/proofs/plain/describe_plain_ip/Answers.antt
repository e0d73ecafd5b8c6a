use Rattle.std.proofs.Common.{[], ◌∷◌, None, refl}
use Rattle.etherparse_c.specs.Description.{part}
use Rattle.etherparse_c.proofs.PlainLemmas.{any_version, plain_described, plain_layers}
use Rattle.etherparse_c.proofs.plain.describe_plain_ip.Goals as goal

pub returns : goal.returns
returns c =
    λ done.
    let bytes = c.args.bytes.now in
    let type = c.in-Some.ether_type in
    let does = c.describe_net.ensures done in
    let net = does.net in
    let transport = does.transport in
    let old = record c.args.described.now {
      link = part 0 0 0;
      link_exts = c.no_tag.result ∷ c.no_tag-2.result ∷ c.no_tag-3.result ∷ [];
      link_ext_count = 0;
      refusal = c.no_refusal-described.result;
    } in (
      plain_layers None [] net transport,
      (refl, refl, any_version type bytes net transport c.in-Some.ensures does.holds),
      plain_described None [] net transport 0 old c.describe_net.new.described refl refl refl
          (λ i. c.no_tag.ensures i ∷ c.no_tag-2.ensures i ∷ c.no_tag-3.ensures i ∷ []) refl c.no_refusal-described.ensures
          does.described,
    )
