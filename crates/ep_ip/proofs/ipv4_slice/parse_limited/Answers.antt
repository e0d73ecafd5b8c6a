use Rattle.std.proofs.Common.{rules, ◌≡◌, ◌+◌, ◌-◌, ◌++◌, length, take, drop, subst, arith}
use Rattle.std.proofs.lemmas.Grind.{common_steps}
use Rattle.std.proofs.lemmas.List.{length-take, length-drop}
use Rattle.ep_base.specs.Bytes.{AreBytes, word_at}
use Rattle.ep_base.proofs.BytesLemmas.{AreBytes-prefix}
use Rattle.ep_ip.proofs.CutLemmas.{cut_parts}
use Rattle.ep_ip.proofs.Ipv4Lemmas.{IsComplete, packet_present}
use Rattle.ep_ip.proofs.ipv4_slice.parse_limited.Goals as goal

pub returns-clause-ok : goal.returns-clause-ok
returns-clause-ok c =
    let bytes = c.args.slice.now in
    let shown = c.in-Ok.header.bytes in
    let e = shown.slice.now in
    let ok = c.in-Ok.ensures.ok in
    let n = c.header_len-header_len.result in
    let t = c.total_len-total_len.result in
    let content = take (t - n) (drop n bytes) in
    let fits : AreBytes bytes = λ i. omega (arith, c.type_inv.slice i) in
    let complete : IsComplete e = record {
      fits = AreBytes-prefix e ok.0 (subst AreBytes ok.1 fits);
      version = shown.version;
      words = shown.words;
      whole = shown.whole;
    } in
    let parts : bytes ≡ (e ++ content) ++ drop t bytes =
    cut_parts bytes e ok.0 n t ok.1 c.header_len-header_len.ensures.bytes (omega arith) in
    let cut : word_at e 2 ≡ length e + length content =
    omega (arith, length-take (t - n) (drop n bytes), length-drop n bytes) in
    (drop t bytes, parts, packet_present bytes e content (drop t bytes) complete parts cut)

pub returns-then-slice-total_len-clause-err : goal.returns-then-slice-total_len-clause-err
returns-then-slice-total_len-clause-err c = search (rules, common_steps)
