-- The bytes of both slots come out one slot after the other.
use Rattle.std.proofs.Common.{append-nil, subst, sym}
use Rattle.std.specs.{Io.KnownBytes.{Appends}, Prelude.{List, Option, [], ℕ, ◌++◌, ◌≡◌}}
use Rattle.mc_flash.specs.Flash.{Content}
use Rattle.mc_output.specs.{Text.{AppendsPrefix}, facts.Prefixes.{IsOut, out_all, out_begun, out_prefix, out_more}}
use Rattle.mc_trace.specs.Sectors.{slots_bytes}

module _ (c : Content) (before one : Option (List ℕ)) where
  pub primary_begun : (bytes : List ℕ) → bytes ≡ c.primary → AppendsPrefix before one bytes → AppendsPrefix before one (slots_bytes c)
  primary_begun bytes is p = out_prefix before before one (slots_bytes c) c.primary c.secondary (out_begun before (slots_bytes c)) (subst (AppendsPrefix before one) is p)

  module _ (bytes : List ℕ) (is : bytes ≡ c.primary) (primary : Appends before one bytes) (now : Option (List ℕ)) (more : List ℕ) (more_is : more ≡ c.secondary) where
    primary_out : IsOut before one (slots_bytes c) (c.secondary ++ [])
    primary_out =
        subst (IsOut before one (slots_bytes c)) (sym (append-nil c.secondary))
        (out_more before before one (slots_bytes c) c.primary c.secondary (out_begun before (slots_bytes c)) (subst (Appends before one) is primary))

    pub secondary_begun : AppendsPrefix one now more → AppendsPrefix before now (slots_bytes c)
    secondary_begun p = out_prefix before one now (slots_bytes c) c.secondary [] primary_out (subst (AppendsPrefix one now) more_is p)

    pub slots_out : Appends one now more → Appends before now (slots_bytes c)
    slots_out p = out_all before now (slots_bytes c) (out_more before one now (slots_bytes c) c.secondary [] primary_out (subst (Appends one now) more_is p))
