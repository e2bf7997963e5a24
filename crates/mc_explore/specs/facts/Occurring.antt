-- The flash that power cuts leave, as an option and as a total function: where the cuts can occur the two are one.
use Rattle.std.specs.Prelude.{◌≡◌, ℕ, ◌<◌, nat_lt, Bool, true, is_some, if◌then◌else◌, List, [], ◌∷◌, length, Option, Some, None, option_and_then, refl}
use Rattle.std.proofs.Common.{arith, sym, ap, ◌∙◌}
use Rattle.mc_flash.specs.Flash.{Content}
use Rattle.mc_boot.specs.{Plan.{plan, PowerOn, again}, Outcome.{ops_of, at, cut_at, after}, Boot.{Progress, begun, HasCome}}
use Rattle.mc_boot.specs.facts.Run.{at_defined, come_begun, come_at}
use Rattle.mc_explore.specs.Schedules.{CanOccur, IsMember}
use Rattle.mc_tree.specs.Tree.{landed, Allowed}
use Rattle.mc_tree.specs.Tree as tree
use Rattle.mc_explore.specs.Boots.{content_or, at_cut, boots}

some_of : (s : Content) (o : Option Content) (t : Content) → o ≡ Some t → o ≡ Some (content_or s o)
some_of s o t e = e ∙ ap (λ (z : Option Content). Some (content_or s z)) (sym e)

pub at_is : (x : PowerOn) (c : ℕ) → at x c ≡ Some (at_cut x c)
unfolding at_cut
at_is x c = let d = at_defined x c in some_of x.content (at x c) d.0 d.1

pub lands_at : (x : PowerOn) (t : Content) (c : ℕ) → at x c ≡ Some t → t ≡ at_cut x c
unfolding at_cut
lands_at x t c e = ap (content_or x.content) (sym e)

cut_is : (x : PowerOn) (c : ℕ) → c < length (ops_of x) → cut_at x c ≡ Some (at_cut x c)
cut_is x c lt = grind (arith, at_is)

-- Where each boot makes more operations than its cut says, the flash is the defined one.
pub allowed_after : (x : PowerOn) (l : List ℕ) → Allowed boots x l → after x l ≡ Some (landed boots x l).content
allowed_after x [] a = refl
allowed_after x (c ∷ cs) a =
    ap (λ (o : Option Content). option_and_then (λ t. after (again x t) cs) o) (cut_is x c a.0) ∙ allowed_after (again x (at_cut x c)) cs a.1

pub allowed_occurs : (x : PowerOn) (l : List ℕ) → Allowed boots x l → CanOccur x l
allowed_occurs x l a = ap (λ (o : Option Content). is_some o) (allowed_after x l a)

first_allowed : (x : PowerOn) (c : ℕ) (cs : List ℕ) (b : Bool) → nat_lt c (length (ops_of x)) ≡ b
    → ((t : Content) → CanOccur (again x t) cs → Allowed boots (again x t) cs)
    → is_some (option_and_then (λ t. after (again x t) cs) (if b then at x c else None)) ≡ true → (c < length (ops_of x)) × Allowed boots (again x (at_cut x c)) cs
first_allowed x c cs it e beyond some = grind (arith, at_is)

-- And only there can they occur.
pub occurs_allowed : (x : PowerOn) (l : List ℕ) → CanOccur x l → Allowed boots x l
occurs_allowed x [] some = tt
occurs_allowed x (c ∷ cs) some =
    first_allowed x c cs (nat_lt c (length (ops_of x))) refl (λ t h. occurs_allowed (again x t) cs h) some

-- The schedules that can occur are the paths of the tree of boots.
pub member_of : (x : PowerOn) (bound : ℕ) (l : List ℕ) → tree.IsMember boots x bound l → IsMember x bound l
member_of x bound l m = (m.0, allowed_occurs x l m.1)

pub path_of : (x : PowerOn) (bound : ℕ) (l : List ℕ) → IsMember x bound l → tree.IsMember boots x bound l
path_of x bound l m = (m.0, occurs_allowed x l m.1)

-- The flash of a boot on its way is the one after as many operations.
pub come_lands : (x : PowerOn) (p : Progress) (t : Content) → HasCome x p t → t ≡ at_cut x p.count
come_lands x p t come = lands_at x t p.count (come_at x p t come)

-- And a node of the tree is of the rules and the layout of the root.
pub landed_again : (x : PowerOn) (l : List ℕ) → landed boots x l ≡ again x (landed boots x l).content
landed_again x [] = refl
landed_again x (c ∷ cs) = landed_again (again x (at_cut x c)) cs

-- No operation leaves the flash as it is.
pub at_zero : (x : PowerOn) → x.content ≡ at_cut x 0
at_zero x = come_lands x (begun x.rules (plan x)) x.content (come_begun x)
