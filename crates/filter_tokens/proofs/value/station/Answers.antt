use Rattle.filter_tokens.proofs.ValueLemmas.{after_octet, last_octet, no_last_octet, no_octet, six_octets}
use Rattle.filter_tokens.proofs.value.station.Goals as goal

pub returns-in_err-a-clause-only : goal.returns-in_err-a-clause-only
returns-in_err-a-clause-only c =
    λ octets stated.
    absurd (no_octet 4 c.args.word.now c.in_err-a.ensures.only octets stated)

pub returns-in_err-b-clause-only : goal.returns-in_err-b-clause-only
returns-in_err-b-clause-only c =
    λ octets stated.
    let after_a =
    after_octet 4 c.args.word.now c.in_ok-a.others.now c.in_ok-a.a c.in_ok-a.ensures.only octets stated in
    absurd (no_octet 3 c.in_ok-a.others.now c.in_err-b.ensures.only after_a.0 after_a.2)

pub returns-in_err-c-clause-only : goal.returns-in_err-c-clause-only
returns-in_err-c-clause-only c =
    λ octets stated.
    let after_a =
    after_octet 4 c.args.word.now c.in_ok-a.others.now c.in_ok-a.a c.in_ok-a.ensures.only octets stated in
    let after_b =
    after_octet 3 c.in_ok-a.others.now c.in_ok-b.others.now c.in_ok-b.b c.in_ok-b.ensures.only after_a.0 after_a.2 in
    absurd (no_octet 2 c.in_ok-b.others.now c.in_err-c.ensures.only after_b.0 after_b.2)

pub returns-in_err-d-clause-only : goal.returns-in_err-d-clause-only
returns-in_err-d-clause-only c =
    λ octets stated.
    let after_a =
    after_octet 4 c.args.word.now c.in_ok-a.others.now c.in_ok-a.a c.in_ok-a.ensures.only octets stated in
    let after_b =
    after_octet 3 c.in_ok-a.others.now c.in_ok-b.others.now c.in_ok-b.b c.in_ok-b.ensures.only after_a.0 after_a.2 in
    let after_c =
    after_octet 2 c.in_ok-b.others.now c.in_ok-c.others.now c.in_ok-c.c c.in_ok-c.ensures.only after_b.0 after_b.2 in
    absurd (no_octet 1 c.in_ok-c.others.now c.in_err-d.ensures.only after_c.0 after_c.2)

pub returns-in_err-e-clause-only : goal.returns-in_err-e-clause-only
returns-in_err-e-clause-only c =
    λ octets stated.
    let after_a =
    after_octet 4 c.args.word.now c.in_ok-a.others.now c.in_ok-a.a c.in_ok-a.ensures.only octets stated in
    let after_b =
    after_octet 3 c.in_ok-a.others.now c.in_ok-b.others.now c.in_ok-b.b c.in_ok-b.ensures.only after_a.0 after_a.2 in
    let after_c =
    after_octet 2 c.in_ok-b.others.now c.in_ok-c.others.now c.in_ok-c.c c.in_ok-c.ensures.only after_b.0 after_b.2 in
    let after_d =
    after_octet 1 c.in_ok-c.others.now c.in_ok-d.others.now c.in_ok-d.d c.in_ok-d.ensures.only after_c.0 after_c.2 in
    absurd (no_octet 0 c.in_ok-d.others.now c.in_err-e.ensures.only after_d.0 after_d.2)

pub returns-in_err-f-clause-only : goal.returns-in_err-f-clause-only
returns-in_err-f-clause-only c =
    λ octets stated.
    let after_a =
    after_octet 4 c.args.word.now c.in_ok-a.others.now c.in_ok-a.a c.in_ok-a.ensures.only octets stated in
    let after_b =
    after_octet 3 c.in_ok-a.others.now c.in_ok-b.others.now c.in_ok-b.b c.in_ok-b.ensures.only after_a.0 after_a.2 in
    let after_c =
    after_octet 2 c.in_ok-b.others.now c.in_ok-c.others.now c.in_ok-c.c c.in_ok-c.ensures.only after_b.0 after_b.2 in
    let after_d =
    after_octet 1 c.in_ok-c.others.now c.in_ok-d.others.now c.in_ok-d.d c.in_ok-d.ensures.only after_c.0 after_c.2 in
    let after_e =
    after_octet 0 c.in_ok-d.others.now c.in_ok-e.others.now c.in_ok-e.e c.in_ok-e.ensures.only after_d.0 after_d.2 in
    absurd (no_last_octet c.in_ok-e.others.now after_e.0 c.in_err-f.ensures.only after_e.2)

pub returns-clause-only : goal.returns-clause-only
returns-clause-only c =
    λ octets stated.
    let after_a =
    after_octet 4 c.args.word.now c.in_ok-a.others.now c.in_ok-a.a c.in_ok-a.ensures.only octets stated in
    let after_b =
    after_octet 3 c.in_ok-a.others.now c.in_ok-b.others.now c.in_ok-b.b c.in_ok-b.ensures.only after_a.0 after_a.2 in
    let after_c =
    after_octet 2 c.in_ok-b.others.now c.in_ok-c.others.now c.in_ok-c.c c.in_ok-c.ensures.only after_b.0 after_b.2 in
    let after_d =
    after_octet 1 c.in_ok-c.others.now c.in_ok-d.others.now c.in_ok-d.d c.in_ok-d.ensures.only after_c.0 after_c.2 in
    let after_e =
    after_octet 0 c.in_ok-d.others.now c.in_ok-e.others.now c.in_ok-e.e c.in_ok-e.ensures.only after_d.0 after_d.2 in
    let is = last_octet c.in_ok-e.others.now after_e.0 c.in_ok-f.f c.in_ok-f.ensures.only after_e.2 in
    six_octets octets after_a.0 after_b.0 after_c.0 after_d.0 after_e.0 c.in_ok-a.a c.in_ok-b.b c.in_ok-c.c c.in_ok-d.d
    c.in_ok-e.e c.in_ok-f.f after_a.1 after_b.1 after_c.1 after_d.1 after_e.1 is
