-- Where a judge stands in the bytes that it was fed.
use Rattle.std.specs.Prelude.{List, None, drop, length, ℕ, ◌++◌, ◌+◌, ◌<◌, ◌≡◌, ◌≤◌}
use Rattle.mc_image.specs.Image.{IsBytes, payload_end, protected_end, u16_at}
use Rattle.mc_image.specs.{Valid.{header_fault, protected_fault}, declared.areas.ProtectedArea.{ProtectedArea}}
use Rattle.mc_image.specs.{declared.areas.EntryScan.{EntryScan}, declared.header.Header.{Header}}
use Rattle.mc_image.specs.{declared.judge.Sealed.{Sealed}, declared.judge.Stage.{Stage}}
use Rattle.mc_image.specs.inner.Reading.{Follows, IsHeader, Scans, head_fault, held}
use Rattle.mc_image.specs.Verdict.{verdict}
use Rattle.sha2.specs.{Hashers.{Holds256}, Sha256.{sha256}, declared.Sha256.{Sha256}}
use Rattle.mc_image.specs.declared.judge.Stage.TheVariants as stages

-- the fields of the header are there, without a fault
pub record HasHeader (h : Header) (bytes : List ℕ) : Type 0 where
  pub none : header_fault bytes ≡ None
  pub long : 32 ≤ length bytes
  pub size : 32 ≤ h.size
  pub fields : IsHeader h bytes

-- header, payload and protected area, without a fault, and their digest
pub record IsSealed (s : Sealed) (body : List ℕ) : Type 0 where
  pub header : HasHeader s.header body
  pub whole : length body ≡ protected_end body
  pub protected : protected_fault body ≡ None
  pub digest : s.digest ≡ sha256 body

-- after such a body stands a part of something
pub record IsBeyond (s : Sealed) (bytes : List ℕ) (P : List ℕ → Type 0) : Type 0 where
  pub body : List ℕ
  pub rest : List ℕ
  pub split : bytes ≡ body ++ rest
  pub sealed : IsSealed s body
  pub stands : P rest

-- in a protected area, of which so many bytes are left
pub record IsProtected (h : Header) (n : ℕ) (a : ProtectedArea) (bytes : List ℕ) : Type 0 where
  pub prefix : List ℕ
  pub rest : List ℕ
  pub split : bytes ≡ prefix ++ rest
  pub header : HasHeader h prefix
  pub len : length prefix ≡ payload_end prefix
  pub left : length rest + n ≡ h.protected
  pub area : Follows a rest

-- in a plain area whose head has no fault, of which so many bytes are left
pub record IsPlain (t n : ℕ) (w : EntryScan) (bytes : List ℕ) : Type 0 where
  pub none : head_fault bytes ≡ None
  pub head : 4 ≤ length bytes
  pub total : t ≡ u16_at 2 bytes
  pub left : length bytes + n ≡ t
  pub scan : Scans w (drop 4 bytes)

-- what the stage says of the bytes so far, which the hasher holds as long as their digest is wanted
abbrev pub IsInStage : Stage → Sha256 → List ℕ → Type 0
IsInStage (stages.Fields fields) hasher bytes = Holds256 hasher bytes × (length bytes < 32) × (held fields ≡ bytes)
IsInStage (stages.Payload header left) hasher bytes =
    Holds256 hasher bytes × HasHeader header bytes × (length bytes + left ≡ payload_end bytes) × (0 < left)
IsInStage (stages.Protected header left area) hasher bytes = Holds256 hasher bytes × (0 < left) × IsProtected header left area bytes
IsInStage (stages.PlainHead sealed head) hasher bytes = IsBeyond sealed bytes (λ rest. (length rest < 4) × (held head ≡ rest))
IsInStage (stages.Plain sealed total left scan) hasher bytes = (0 < left) × IsBeyond sealed bytes (IsPlain total left scan)
-- the answer is known, whatever follows
IsInStage (stages.Over answer) hasher bytes = (more : List ℕ) → IsBytes (bytes ++ more) → verdict (bytes ++ more) ≡ answer
