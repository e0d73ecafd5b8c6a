use Rattle.std.proofs.Common.{◌≡◌, ◌+◌, ◌-◌, drop, ap, subst, ◌∙◌, arith}
use Rattle.filter_tokens.specs.ShownTokens.{shown_first}
use Rattle.filter_tokens.specs.Tokens.{first_token}
use Rattle.std.proofs.lemmas.List.{take_rest}
use Rattle.filter_tokens.proofs.token.token_at.Goals as goal

pub returns-clause-token : goal.returns-clause-token
returns-clause-token c =
    let start = c.args.at + c.blanks_len.result in
    let same : start + c.first_token-kind.result.1 - start ≡ c.first_token-kind.result.1 = omega arith in
    ap (λ n. shown_first c.first_token-kind.result.0 n (drop start c.args.text.now)) same
    ∙ subst (λ l. shown_first c.first_token-kind.result.0 c.first_token-kind.result.1 l ≡ first_token l)
    (take_rest c.args.text.now start) c.first_token-kind.ensures.token
