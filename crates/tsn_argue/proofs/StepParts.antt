-- Facts and moves that a view learns one after another.
use Rattle.std.proofs.Common.{◌≡◌, ℕ, ◌<◌, ◌+◌, List, [], ◌∷◌, ◌++◌, length, take, get_or, map, All, Option, Some, None, refl, sym, ap, ◌∙◌, subst}
use Rattle.std.specs.Prelude.{Result, Ok, Err, OnOk}
use Rattle.std.proofs.lemmas.List.{take_more, map-append}
use Rattle.std.proofs.lemmas.List.Elements.{All-get_or, All-head, All-tail}
use Rattle.tsn_model.specs.Network.{Network}
use Rattle.tsn_model.specs.Argument as model
use Rattle.tsn_model.specs.Argument.{from, until, order, done_from, done_until, IsFact, opposite, turned, learned, learned_all}
use Rattle.tsn_cert.specs.Fact.{fact_of, clause_of}
use Rattle.tsn_cert.specs.declared.fact.Fact.{Fact}
use Rattle.tsn_model.proofs.Lists.{All-unmap}
use Rattle.tsn_argue.specs.News.{news_of}
use Rattle.tsn_argue.specs.Motion.{facts_of, also}
use Rattle.tsn_argue.specs.State.{view_of, IsSound, Becomes}
use Rattle.tsn_argue.specs.declared.news.News.{News}
use Rattle.tsn_argue.specs.declared.motion.Shown.{Shown}
use Rattle.tsn_argue.specs.declared.view.View.{View}
use Rattle.tsn_argue.proofs.Taking.{then_becomes}

-- the opposite of a fact is one
pub opposite_fact : (network : Network) (fact : model.Fact) → IsFact network fact → IsFact network (opposite fact)
unfolding opposite turned
opposite_fact network (from i v) is = is
opposite_fact network (until i v) is = is
opposite_fact network (order decision) is = is
opposite_fact network (done_from v) is = tt
opposite_fact network (done_until v) is = tt

-- one fact more
pub learned-push : (view : model.View) (facts : List model.Fact) (fact : model.Fact)
    → learned_all view (facts ++ fact ∷ []) ≡ learned (learned_all view facts) fact
unfolding learned_all
learned-push view [] fact = refl
learned-push view (first ∷ facts) fact = learned-push (learned view first) facts fact

-- one element more of a list that is gone through
pub mapped_take : {A X : Type 0} (f : A → X) (xs : List A) (k : ℕ) (d : A) → k < length xs
    → map f (take (k + 1) xs) ≡ map f (take k xs) ++ f (get_or xs k d) ∷ []
mapped_take f xs k d below = ap (map f) (take_more xs k d below) ∙ map-append f (take k xs) (get_or xs k d ∷ [])

pub learned_more : {A : Type 0} (old mid new : View) (f : A → model.Fact) (xs : List A) (k : ℕ) (d : A) (fact : model.Fact) → k < length xs
    → fact ≡ f (get_or xs k d)
    → Becomes old mid (learned_all (view_of old) (map f (take k xs))) → Becomes mid new (learned (view_of mid) fact)
    → Becomes old new (learned_all (view_of old) (map f (take (k + 1) xs)))
learned_more old mid new f xs k d fact below is first second =
    subst (Becomes old new) same (then_becomes old mid new _ _ first second)
  where
    same : learned (view_of mid) fact ≡ learned_all (view_of old) (map f (take (k + 1) xs))
    same =
        ap (λ v. learned v fact) first.view ∙ ap (learned (learned_all (view_of old) (map f (take k xs)))) is
        ∙ sym (learned-push (view_of old) (map f (take k xs)) (f (get_or xs k d))) ∙ ap (learned_all (view_of old)) (sym (mapped_take f xs k d below))

-- no fact yet
pub none_learned : (old : View) → IsSound old → Becomes old old (learned_all (view_of old) [])
unfolding learned_all
none_learned old sound = record { sound = sound; network = refl; base = refl; view = refl }

-- what a move shows, fact by fact
pub one_learned : (old new : View) (shown : Shown) → shown.second ≡ None → Becomes old new (learned (view_of old) (news_of shown.first))
    → Becomes old new (learned_all (view_of old) (facts_of shown))
unfolding learned_all
one_learned old new shown none become = subst
    (λ (o : Option News). Becomes old new (learned_all (learned (view_of old) (news_of shown.first)) (also o))) (sym none) become

pub two_learned : {E : Type 0} (old mid new : View) (shown : Shown) (second : News) (r : Result Unit E) → shown.second ≡ Some second
    → Becomes old mid (learned (view_of old) (news_of shown.first))
    → OnOk r (Becomes mid new (learned (view_of mid) (news_of second))) → OnOk r (Becomes old new (learned_all (view_of old) (facts_of shown)))
unfolding learned_all
two_learned old mid new shown second (Err e) is first become = tt
two_learned old mid new shown second (Ok u) is first become =
    subst (λ (o : Option News). Becomes old new (learned_all (learned (view_of old) (news_of shown.first)) (also o))) (sym is)
    (subst (Becomes old new) (ap (λ v. learned v (news_of second)) first.view) (then_becomes old mid new _ _ first become))

pub first_fact : (network : Network) (shown : Shown) → All (IsFact network) (facts_of shown) → IsFact network (news_of shown.first)
first_fact network shown facts = All-head (IsFact network) (news_of shown.first) (also shown.second) facts

pub second_fact : (network : Network) (shown : Shown) (second : News) → shown.second ≡ Some second → All (IsFact network) (facts_of shown)
    → IsFact network (news_of second)
second_fact network shown second is facts =
    All-head (IsFact network) (news_of second) []
    (subst (λ (o : Option News). All (IsFact network) (also o)) is (All-tail (IsFact network) (news_of shown.first) (also shown.second) facts))

-- a fact of a clause of the file
pub fact_at : (network : Network) (clause : List Fact) (k : ℕ) (d : Fact) → k < length clause → All (IsFact network) (clause_of clause)
    → IsFact network (fact_of (get_or clause k d))
fact_at network clause k d below facts = All-get_or (λ fact. IsFact network (fact_of fact)) clause k d below (All-unmap (IsFact network) fact_of clause facts)

twice : {A B C : Type 0} (f : B → C) (g : A → B) (xs : List A) → map f (map g xs) ≡ map (λ x. f (g x)) xs
twice f g [] = refl
twice f g (x ∷ xs) = ap (λ ys. f (g x) ∷ ys) (twice f g xs)

pub supposed_fact : (network other : Network) (clause : List Fact) (k : ℕ) (d : Fact) (fact : model.Fact) → k < length clause
    → All (IsFact network) (clause_of clause) → other ≡ network
    → fact ≡ opposite (fact_of (get_or clause k d)) → IsFact other fact
supposed_fact network other clause k d fact below facts same is =
    subst (λ n. IsFact n fact) (sym same) (subst (IsFact network) (sym is)
    (opposite_fact network (fact_of (get_or clause k d)) (fact_at network clause k d below facts)))

pub known_fact : (network other : Network) (clause : List Fact) (k : ℕ) (d : Fact) (fact : model.Fact) → k < length clause
    → All (IsFact network) (clause_of clause) → other ≡ network
    → fact ≡ fact_of (get_or clause k d) → IsFact other fact
known_fact network other clause k d fact below facts same is =
    subst (λ n. IsFact n fact) (sym same) (subst (IsFact network) (sym is) (fact_at network clause k d below facts))

-- the opposites of a clause are learned one by one
pub supposed_more : (old mid new : View) (clause : List Fact) (k : ℕ) (d : Fact) (fact : model.Fact) → k < length clause
    → fact ≡ opposite (fact_of (get_or clause k d))
    → Becomes old mid (learned_all (view_of old) (map opposite (clause_of (take k clause)))) → Becomes mid new (learned (view_of mid) fact)
    → Becomes old new (learned_all (view_of old) (map opposite (clause_of (take (k + 1) clause))))
supposed_more old mid new clause k d fact below is first second =
    subst (λ facts. Becomes old new (learned_all (view_of old) facts)) (sym (twice opposite fact_of (take (k + 1) clause)))
    (learned_more old mid new (λ f. opposite (fact_of f)) clause k d fact below is
    (subst (λ facts. Becomes old mid (learned_all (view_of old) facts)) (twice opposite fact_of (take k clause)) first) second)
