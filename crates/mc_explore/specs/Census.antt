-- What all rows of a start come to, in the numbers that are printed.
use Rattle.std.specs.List.{find}
use Rattle.std.specs.Prelude.{List, None, Option, Some, codes, decimal, if◌then◌else◌, length, min, not, option_map, ℕ, ◌++◌, ◌-◌, ◌==◌, ◌^◌, ◌≡◌}
use Rattle.mc_boot.specs.{Outcome.{Report}, Plan.{PowerOn}}
use Rattle.mc_explore.specs.{Pages.{IsRest}, Subject.{Subject, at_start, rows_of}, Survey.{ending_with, is_boot, is_fault, is_none, is_panic, most_ops}}
use Rattle.mc_explore.specs.declared.census.CensusOf.{CensusOf}

-- A number, or the largest 128-bit number where it is larger.
unfoldable pub cut_number : ℕ → ℕ
cut_number n = min n (2 ^ 128 - 1)

-- Of some rows: how many there are and how many end with each result, each number cut off at the largest 128-bit number; the largest
-- number of operations; and the key of the first one that does not end in a boot.
abbrev pub census_by : {R K : Type 0} → (R → Report) → (R → K) → List R → CensusOf K
census_by ends key rows = record {
  schedules = cut_number (length rows);
  boot = cut_number (ending_with ends is_boot rows);
  none = cut_number (ending_with ends is_none rows);
  panic = cut_number (ending_with ends is_panic rows);
  fault = cut_number (ending_with ends is_fault rows);
  most_operations = most_ops ends rows;
  first_not_boot = option_map key (find (λ row. not (is_boot (ends row).result)) rows);
}

module _ {C K R U : Type 0} (x : Subject C K R U) where
  -- That is what the one list of the rows of a start comes to, under a choice, for at most so many cuts, where each ends so.
  pub record IsCensusOf (ends : R → Report) (start : PowerOn) (choice : C) (bound : ℕ) (census : CensusOf K) : Type 0 where
    pub rows : List R
    pub rest : IsRest (rows_of x) (at_start start choice bound) rows
    pub census_is : census ≡ census_by ends x.key rows

  -- Where each ends as it does.
  abbrev pub IsCensus : PowerOn → C → ℕ → CensusOf K → Type 0
  IsCensus = IsCensusOf x.ends

-- A census as it is printed.

-- A number of schedules: the largest 128-bit number stands for itself and for all above it.
abbrev pub count_text : ℕ → List ℕ
count_text n = if n == 2 ^ 128 - 1 then codes ">=" ++ decimal n else decimal n

-- A key, or that there is none.
abbrev pub key_or_none : {K : Type 0} → (K → List ℕ) → Option K → List ℕ
key_or_none text None = codes "none"
key_or_none text (Some key) = text key

-- Six lines of numbers.
abbrev pub counts_text : {K : Type 0} → CensusOf K → List ℕ
counts_text c =
    codes "schedules " ++ (count_text c.schedules ++ (codes "\nboot " ++ (count_text c.boot ++ (codes "\nnone " ++ (count_text c.none
    ++ (codes "\npanic " ++ (count_text c.panic ++ (codes "\nfault " ++ (count_text c.fault ++ (codes "\nmost-ops " ++ (decimal c.most_operations ++ codes "\n")))))))))))

-- And the first row that does not end in a boot.
abbrev pub census_text : {C K R U : Type 0} → Subject C K R U → CensusOf K → List ℕ
census_text x c = counts_text c ++ (codes "first-not-boot " ++ (key_or_none x.key_text c.first_not_boot ++ codes "\n"))
