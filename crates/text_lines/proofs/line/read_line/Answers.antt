use Rattle.std.proofs.Common.{◌≡◌, ℕ, List, [], ◌∷◌, ◌++◌, None, Some, length, sym, ap, ◌∙◌, arith, length-append}
use Rattle.std.proofs.lemmas.Bool.Decides.{Decides-eqb}
use Rattle.std.proofs.lemmas.List.{append_cancel_left, drop_at, take-append-drop}
use Rattle.std.proofs.lemmas.Slice.Eq.{strip_prefix_is}
use Rattle.text_lines.specs.Line.{assigned, line}
use Rattle.text_lines.proofs.OneLine.{after_equals}
use Rattle.text_lines.proofs.line.read_line.Goals as goal

-- what follows the name and '=' of a line
behind : {input named after : List ℕ} (name value rest : List ℕ) → input ≡ name ++ named → named ≡ 61 ∷ after → input ≡ line name value rest
    → after ≡ value ++ (10 ∷ rest)
behind {after = after} name value rest n e h = after_equals value rest after (sym e ∙ append_cancel_left name _ _ (sym n ∙ h))

pub returns-in_err-named : goal.returns-in_err-named
returns-in_err-named c =
    rw c.from_residual.ensures
    (λ value rest h. strip_prefix_is Decides-eqb c.args.input.now c.args.name.now None c.in_err-named.ensures.cases _ h.reads)

pub returns-in_err-assigned : goal.returns-in_err-assigned
unfolding assigned
returns-in_err-assigned c =
    let named = strip_prefix_is Decides-eqb c.args.input.now c.args.name.now (Some c.in_ok-named.named) c.in_ok-named.ensures.cases in
    rw c.from_residual-in_err-assigned.ensures
    (λ value rest h.
    strip_prefix_is Decides-eqb c.in_ok-named.named.now (61 ∷ []) None c.in_err-assigned.ensures.cases _
    (append_cancel_left c.args.name.now _ _ (sym named ∙ h.reads)))

pub returns-in_err-value : goal.returns-in_err-value
returns-in_err-value c =
    let named = strip_prefix_is Decides-eqb c.args.input.now c.args.name.now (Some c.in_ok-named.named) c.in_ok-named.ensures.cases in
    let equals = strip_prefix_is Decides-eqb c.in_ok-named.named.now (61 ∷ []) (Some c.in_ok-assigned.assigned) c.in_ok-assigned.ensures.cases in
    rw c.from_residual-in_err-value.ensures
    (λ value rest h.
    let after = behind c.args.name.now value rest named equals h.reads in
    omega (arith, simp length-append at (ap length after), h.wide, c.in_err-value.ensures.cases))

pub returns-in_err-rest : goal.returns-in_err-rest
returns-in_err-rest c =
    let named = strip_prefix_is Decides-eqb c.args.input.now c.args.name.now (Some c.in_ok-named.named) c.in_ok-named.ensures.cases in
    let equals = strip_prefix_is Decides-eqb c.in_ok-named.named.now (61 ∷ []) (Some c.in_ok-assigned.assigned) c.in_ok-assigned.ensures.cases in
    rw c.from_residual-in_err-rest.ensures
    (λ value rest h.
    let after = behind c.args.name.now value rest named equals h.reads in
    let end = drop_at value (10 ∷ rest) c.args.width h.wide in
    strip_prefix_is Decides-eqb c.in_ok-value.ended.now (10 ∷ []) None c.in_err-rest.ensures.cases rest (cc c.in_ok-value.ensures.cases.2))

pub returns : goal.returns
unfolding assigned
returns c =
    let named = strip_prefix_is Decides-eqb c.args.input.now c.args.name.now (Some c.in_ok-named.named) c.in_ok-named.ensures.cases in
    let equals = strip_prefix_is Decides-eqb c.in_ok-named.named.now (61 ∷ []) (Some c.in_ok-assigned.assigned) c.in_ok-assigned.ensures.cases in
    let end = strip_prefix_is Decides-eqb c.in_ok-value.ended.now (10 ∷ []) (Some c.in_ok-rest.rest) c.in_ok-rest.ensures.cases in
    let halves = c.in_ok-value.ensures.cases in
    let whole = take-append-drop c.args.width c.in_ok-assigned.assigned.now in
    record { wide = halves.3; reads = cc (named, equals, halves.1, halves.2, end) }
