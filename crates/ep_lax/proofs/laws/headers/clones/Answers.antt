use Rattle.std.proofs.Common.{◌≡◌, rules}
use Rattle.std.proofs.lemmas.List.Elements.{same_from_all_zip}
use Rattle.ep_lax.proofs.laws.headers.clones.Goals as goal

pub returns-clause-packets : goal.returns-clause-packets
returns-clause-packets c a b same =
    let link : b.link ≡ a.link = search rules in
    let tags = same_from_all_zip _ _ _ same.1.0 (λ x y r. search rules) in
    let exts : b.link_exts ≡ a.link_exts = search (tags, rules) in
    let stop : b.stop_err ≡ a.stop_err = search (c.clones.ensures.slice_errors, rules) in
    let net : b.net ≡ a.net = search rules in
    let transport : b.transport ≡ a.transport = search rules in
    let payload : b.payload ≡ a.payload = search rules in
    λ i. record {
      link = link i;
      link_exts = exts i;
      net = net i;
      transport = transport i;
      payload = payload i;
      stop_err = stop i;
    }
