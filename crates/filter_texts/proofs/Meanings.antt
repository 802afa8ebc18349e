-- What the steps of a filter give.
use Rattle.std.proofs.Common.{◌≡◌, Bool, not, ◌&&◌, ◌||◌, List, [], ◌∷◌, ◌++◌, refl, sym, ap, ◌∙◌, append_assoc, append-nil}
use Rattle.filter_texts.specs.declared.choice.Test.{Test}
use Rattle.filter_texts.specs.declared.choice.Step.{Step}
use Rattle.filter_texts.specs.declared.choice.Step.TheVariants as step
use Rattle.filter_texts.specs.Grammar.{Filter, test, negation, both, either}
use Rattle.filter_texts.specs.Meaning.{meaning, postfix, run, only_truth, holds_for}

runs_test : (holds : Test → Bool) (t : Test) (steps : List Step) (truths : List Bool)
    → run holds (step.Test t ∷ steps) truths ≡ run holds steps (holds t ∷ truths)
unfolding run
runs_test holds t steps truths = refl

runs_not : (holds : Test → Bool) (a : Bool) (steps : List Step) (truths : List Bool)
    → run holds (step.Not ∷ steps) (a ∷ truths) ≡ run holds steps (not a ∷ truths)
unfolding run
runs_not holds a steps truths = refl

runs_and : (holds : Test → Bool) (a b : Bool) (steps : List Step) (truths : List Bool)
    → run holds (step.And ∷ steps) (b ∷ a ∷ truths) ≡ run holds steps ((a && b) ∷ truths)
unfolding run
runs_and holds a b steps truths = refl

runs_or : (holds : Test → Bool) (a b : Bool) (steps : List Step) (truths : List Bool)
    → run holds (step.Or ∷ steps) (b ∷ a ∷ truths) ≡ run holds steps ((a || b) ∷ truths)
unfolding run
runs_or holds a b steps truths = refl

runs_none : (holds : Test → Bool) (truths : List Bool) → run holds [] truths ≡ truths
unfolding run
runs_none holds truths = refl

-- two filters' steps and what joins them, before other steps
apart : (xs ys zs steps : List Step) → xs ++ ys ++ zs ++ steps ≡ xs ++ (ys ++ (zs ++ steps))
apart xs ys zs steps = append_assoc (xs ++ ys) zs steps ∙ append_assoc xs ys (zs ++ steps)

-- the steps of a filter put its truth upon the stack
pub runs_filter : (holds : Test → Bool) (f : Filter) (steps : List Step) (truths : List Bool)
    → run holds (postfix f ++ steps) truths ≡ run holds steps (meaning holds f ∷ truths)
runs_filter holds (test t) steps truths = runs_test holds t steps truths
runs_filter holds (negation f) steps truths =
    ap (λ ss. run holds ss truths) (append_assoc (postfix f) (step.Not ∷ []) steps)
    ∙ runs_filter holds f (step.Not ∷ steps) truths ∙ runs_not holds (meaning holds f) steps truths
runs_filter holds (both f g) steps truths =
    ap (λ ss. run holds ss truths) (apart (postfix f) (postfix g) (step.And ∷ []) steps)
    ∙ runs_filter holds f (postfix g ++ step.And ∷ steps) truths ∙ runs_filter holds g (step.And ∷ steps) (meaning holds f ∷ truths)
    ∙ runs_and holds (meaning holds f) (meaning holds g) steps truths
runs_filter holds (either f g) steps truths =
    ap (λ ss. run holds ss truths) (apart (postfix f) (postfix g) (step.Or ∷ []) steps)
    ∙ runs_filter holds f (postfix g ++ step.Or ∷ steps) truths ∙ runs_filter holds g (step.Or ∷ steps) (meaning holds f ∷ truths)
    ∙ runs_or holds (meaning holds f) (meaning holds g) steps truths

-- and leave nothing else
pub filter_leaves : (holds : Test → Bool) (f : Filter) → run holds (postfix f) [] ≡ meaning holds f ∷ []
filter_leaves holds f =
    ap (λ ss. run holds ss []) (sym (append-nil (postfix f))) ∙ runs_filter holds f [] [] ∙ runs_none holds (meaning holds f ∷ [])

pub holds_for_filter : (holds : Test → Bool) (f : Filter) → holds_for holds (postfix f) ≡ meaning holds f
holds_for_filter holds f = ap only_truth (filter_leaves holds f)

-- ---- the filter that steps are of

-- the filters that steps leave upon a stack of filters
trees : List Step → List Filter → List Filter
trees [] fs = fs
trees (step.Test t ∷ steps) fs = trees steps (test t ∷ fs)
trees (step.Not ∷ steps) (f ∷ fs) = trees steps (negation f ∷ fs)
trees (step.And ∷ steps) (g ∷ f ∷ fs) = trees steps (both f g ∷ fs)
trees (step.Or ∷ steps) (g ∷ f ∷ fs) = trees steps (either f g ∷ fs)
trees steps fs = []

tree_of : (f : Filter) (steps : List Step) (fs : List Filter) → trees (postfix f ++ steps) fs ≡ trees steps (f ∷ fs)
unfolding trees
tree_of (test t) steps fs = refl
tree_of (negation f) steps fs =
    ap (λ ss. trees ss fs) (append_assoc (postfix f) (step.Not ∷ []) steps) ∙ tree_of f (step.Not ∷ steps) fs
tree_of (both f g) steps fs =
    ap (λ ss. trees ss fs) (apart (postfix f) (postfix g) (step.And ∷ []) steps)
    ∙ tree_of f (postfix g ++ step.And ∷ steps) fs ∙ tree_of g (step.And ∷ steps) (f ∷ fs)
tree_of (either f g) steps fs =
    ap (λ ss. trees ss fs) (apart (postfix f) (postfix g) (step.Or ∷ []) steps)
    ∙ tree_of f (postfix g ++ step.Or ∷ steps) fs ∙ tree_of g (step.Or ∷ steps) (f ∷ fs)

left : (f : Filter) → trees (postfix f) [] ≡ f ∷ []
unfolding trees
left f = ap (λ ss. trees ss []) (sym (append-nil (postfix f))) ∙ tree_of f [] []

first_is : (f g : Filter) → f ∷ [] ≡ g ∷ [] → f ≡ g
first_is f g e = cc

-- steps are of one filter at most
pub one_tree : (f g : Filter) → postfix f ≡ postfix g → f ≡ g
one_tree f g e = first_is f g (sym (left f) ∙ ap (λ ss. trees ss []) e ∙ left g)
