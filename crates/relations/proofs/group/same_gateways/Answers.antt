-- `same_gateways` meets its contract: lists of different lengths are not the same, and the first of a list are as many as they are. Assumes nothing.
use Rattle.std.proofs.Common.{rules, ◌≡◌, ℕ, zero, suc, ◌≤◌, ◌&&◌, List, [], ◌∷◌, length, take, eqb, refl, sym, ap, ◌∙◌, arith}
use borrow.Author.Tests.{tests, ne_eqb}
use Rattle.std.specs.List.{list_all, zip}
use Rattle.std.proofs.lemmas.Iterator.{YieldsList-from_slice, YieldsList-from_zip, YieldsList-from_take}
use Rattle.std.proofs.lemmas.Iterator.Consumers.{YieldsList-at}
use Rattle.std.proofs.lemmas.Iterator.Search.{all_from_yields_List}
use Rattle.base.specs.Lists.{same}
use Rattle.base.proofs.Laws.Members.{same_lengths, take_own}
use Rattle.relations.proofs.group.same_gateways.Goals as goal

-- The first n of two lists, compared in pairs.
compared : (n : ℕ) (xs ys : List ℕ) → n ≤ length xs → n ≤ length ys → list_all (λ p. eqb p.0 p.1) (take n (zip xs ys)) ≡ same (take n xs) (take n ys)
unfolding same
compared zero xs ys a b = refl
compared (suc n) [] ys a b = absurd (omega arith)
compared (suc n) (x ∷ xs) [] a b = absurd (omega arith)
compared (suc n) (x ∷ xs) (y ∷ ys) a b = ap (λ t. eqb x y && t) (compared n xs ys (omega arith) (omega arith))

pub returns-then-n-gateway_count : goal.returns-then-n-gateway_count
returns-then-n-gateway_count c =
    let a = c.args.a in
    let b = c.args.b in
    let n = c.gateway_count-n.result in
    let x = c.gateway_count-n.ensures.0 in
    let y = c.if-n-gateway_count.true ∙ c.gateway_count.ensures.0 in
    all_from_yields_List (λ p. eqb p.0 p.1) c.all.new.self _ c.all.result c.all.ensures.ran
    (YieldsList-from_take n
    (YieldsList-at c.take.ensures.source
    (YieldsList-from_zip (YieldsList-at c.zip.ensures.first (YieldsList-from_slice a.gateways c.iter.ensures.rest)) (YieldsList-from_slice b.gateways (cc))))
    c.take.ensures.count)
    (λ p r q k. search (rules, tests))
    ∙ compared n a.gateways b.gateways (search rules) (search rules)
    ∙ rw (x, take_own a.count a.gateways) (ap (same _) (rw (← x, y, take_own b.count b.gateways) refl))

pub returns-else-n-gateway_count : goal.returns-else-n-gateway_count
returns-else-n-gateway_count c =
    let x = c.gateway_count-n.ensures.0 in
    let y = c.gateway_count.ensures.0 in
    ne_eqb _ _ c.if-n-gateway_count.false
    ∙ sym (same_lengths _ _ (λ e. c.if-n-gateway_count.false (x ∙ e ∙ sym y)))
