-- Numbers in runs, each of one value.
use Rattle.std.specs.{List.{slice_get}, Prelude.{List, Some, [], length, suc, zero, ℕ, ◌<◌, ◌∷◌, ◌≡◌, ◌≤◌}}
use Rattle.mc_explore.specs.declared.run.Run.{Run}

-- The first number of a run, or how many numbers there are, where there is no such run.
abbrev pub begin_of : {T : Type 0} → List (Run T) → ℕ → ℕ → ℕ
begin_of [] n r = n
begin_of (run ∷ runs) n zero = run.first
begin_of (run ∷ runs) n (suc r) = begin_of runs n r

module _ {T : Type 0} where
  -- They part n numbers, each of which is in one of them.
  pub record IsSplit (runs : List (Run T)) (n : ℕ) : Type 0 where
    pub begin : begin_of runs n 0 ≡ 0
    pub rising : (r : ℕ) → r < length runs → begin_of runs n r < begin_of runs n (suc r)

  -- That run has that number, or is the last one, and all its numbers come before that one.
  pub record Begins (runs : List (Run T)) (n number r : ℕ) : Type 0 where
    pub some : r < length runs
    pub first : begin_of runs n r ≤ number
    pub at_most : number ≤ begin_of runs n (suc r)
    pub inside : number < n → number < begin_of runs n (suc r)

  -- A number is in a run of that value.
  pub record IsIn (runs : List (Run T)) (n number : ℕ) (of : T) : Type 0 where
    pub run : ℕ
    pub first : ℕ
    pub there : slice_get runs run ≡ Some (record { first = first; of = of })
    pub from : begin_of runs n run ≤ number
    pub below : number < begin_of runs n (suc run)

  -- They part n numbers, and of each of them holds what its run says.
  pub record AreOf (P : ℕ → Run T → Type 0) (n : ℕ) (runs : List (Run T)) : Type 0 where
    pub split : IsSplit runs n
    pub each : (r i : ℕ) (run : Run T) → slice_get runs r ≡ Some run → begin_of runs n r ≤ i → i < begin_of runs n (suc r) → P i run
