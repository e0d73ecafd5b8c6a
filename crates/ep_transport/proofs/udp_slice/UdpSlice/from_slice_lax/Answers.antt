use Rattle.std.proofs.Common.{◌≡◌, ◌⊎◌, ◌∙◌, ◌<◌, length, false, inl, inr, arith}
use Rattle.std.proofs.lemmas.Grind.{common_steps}
use Rattle.ep_base.specs.Bytes.{AreBytes, word_at}
use Rattle.ep_transport.proofs.UdpLemmas.{lax_udp_cut, lax_udp_complete, one_lax_udp}
use Rattle.ep_transport.proofs.udp_slice.UdpSlice.from_slice_lax.Goals as goal
use Rattle.ep_transport.proofs.udp_slice.UdpSlice.from_slice_lax.Goals.{then-stated-lt-LEN-via-then-stated-lt-LEN, then-stated-lt-LEN-via-else-stated-lt-LEN+then-slice-stated}

pub returns : goal.returns
returns c =
    let bytes = c.args.slice.now in
    let fits : AreBytes bytes = λ i. omega (arith, c.type_inv.slice i) in
    let shows = lax_udp_cut false bytes c.from_be_bytes-stated.result fits (grind (arith, common_steps))
    (omega arith) (omega arith) in
    record {
      ok = (shows.cut, shows.parts, shows.is, shows.payload);
      only = λ read is.
          let same = one_lax_udp false bytes _ read shows.is is in
          ((λ i. (same i).0), shows.payload ∙ (λ i. (same i).1.payload));
      err = tt;
    }

pub returns-then-stated-lt-LEN : goal.returns-then-stated-lt-LEN
returns-then-stated-lt-LEN c =
    let bytes = c.args.slice.now in
    let fits : AreBytes bytes = λ i. omega (arith, c.type_inv.slice i) in
    let field : c.from_be_bytes-stated.result ≡ word_at bytes 4 = grind (arith, common_steps) in
    let why : (word_at bytes 4 < 8) ⊎ (length bytes < word_at bytes 4) = elim c.then-stated-lt-LEN.branch [
      | then-stated-lt-LEN-via-then-stated-lt-LEN w ↦ inl (omega (arith, field, w.if-stated-lt-LEN.true))
      | then-stated-lt-LEN-via-else-stated-lt-LEN+then-slice-stated w ↦ inr (omega (arith, field, w.if-slice-stated.true))
    ] in
    let shows = lax_udp_complete false bytes fits (omega arith) why in
    record {
      ok = (shows.cut, shows.parts, shows.is, shows.payload);
      only = λ read is.
          let same = one_lax_udp false bytes _ read shows.is is in
          ((λ i. (same i).0), shows.payload ∙ (λ i. (same i).1.payload));
      err = tt;
    }
