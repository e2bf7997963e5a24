-- What the words after a first word that takes the name of a file state.
use Rattle.std.specs.Prelude.{◌≡◌, ℕ, List, codes, Option, Some, None, IsSomeAnd}
use Rattle.std.proofs.{Common.{arith, sym, subst, ◌∙◌}}
use Rattle.mc_life.specs.{declared.event.Event.{Event}, Script.{BeginsWith, NamesThen, Says, SaysNone, Writes, WritesBoth, WritesMaybe}}
use Rattle.mc_life.proofs.Spelling.{one_name}

module _ (rest : List ℕ) (e : Event) where
  of_download : Says (codes "download") (Some rest) e → (file : List ℕ) × (bytes : Option ℕ) × NamesThen file (WritesMaybe bytes) rest
  of_download s = grind arith

  of_store : Says (codes "store") (Some rest) e → (file : List ℕ) × NamesThen file (λ more. more ≡ None) rest
  of_store s = grind arith

  of_write : Says (codes "write") (Some rest) e → (file : List ℕ) × (from count : ℕ) × NamesThen file (λ more. IsSomeAnd more (WritesBoth from count)) rest
  of_write s = grind arith

-- A text that begins with no name.
module _ (rest : List ℕ) (none : (name : List ℕ) (more : Option (List ℕ)) → BeginsWith rest name more → ⊥) where
  no_name : (file : List ℕ) (P : Option (List ℕ) → Type 0) → NamesThen file P rest → ⊥
  no_name file P n = none file n.0 n.1

  pub unnamed_download : SaysNone (codes "download") (Some rest)
  unnamed_download e s = let d = of_download rest e s in no_name d.0 (WritesMaybe d.1) d.2

  pub unnamed_store : SaysNone (codes "store") (Some rest)
  unnamed_store e s = let d = of_store rest e s in no_name d.0 (λ more. more ≡ None) d.1

  pub unnamed_write : SaysNone (codes "write") (Some rest)
  unnamed_write e s = let d = of_write rest e s in no_name d.0 (λ more. IsSomeAnd more (WritesBoth d.1 d.2)) d.3

-- One that begins with a name.
module _ (rest name : List ℕ) (more : Option (List ℕ)) (begins : BeginsWith rest name more) where
  behind : (file : List ℕ) (P : Option (List ℕ) → Type 0) → NamesThen file P rest → P more
  behind file P n = subst P (one_name rest file name n.0 more n.1 begins).1 n.2

  pub no_store : (after : List ℕ) → more ≡ Some after → SaysNone (codes "store") (Some rest)
  no_store after is e s =
      let d = of_store rest e s in
      let both : Some after ≡ None = sym is ∙ behind d.0 (λ m. m ≡ None) d.1 in
      absurd cc

  pub no_download : (count : List ℕ) → more ≡ Some count → ((n : ℕ) → Writes n count → ⊥) → SaysNone (codes "download") (Some rest)
  no_download count is none e s = let d = of_download rest e s in by_count d.1 (subst (WritesMaybe d.1) is (behind d.0 (WritesMaybe d.1) d.2))
    where
      by_count : (bytes : Option ℕ) → WritesMaybe bytes (Some count) → ⊥
      by_count None w = absurd cc
      by_count (Some n) w = none n w

  pub no_write : (numbers : List ℕ) → more ≡ Some numbers → ((m n : ℕ) → WritesBoth m n numbers → ⊥) → SaysNone (codes "write") (Some rest)
  no_write numbers is none e s =
      let d = of_write rest e s in
      let P : Option (List ℕ) → Type 0 = λ m. IsSomeAnd m (WritesBoth d.1 d.2) in
      none d.1 d.2 (subst P is (behind d.0 P d.3))

  pub alone_no_write : more ≡ None → SaysNone (codes "write") (Some rest)
  alone_no_write is e s =
      let d = of_write rest e s in
      let P : Option (List ℕ) → Type 0 = λ m. IsSomeAnd m (WritesBoth d.1 d.2) in
      let no : IsSomeAnd None (WritesBoth d.1 d.2) = subst P is (behind d.0 P d.3) in
      absurd no
