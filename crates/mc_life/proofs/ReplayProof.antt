-- A script, replayed line by line.
use Rattle.std.specs.Prelude.{◌≡◌, ◌⊎◌, ℕ, ◌+◌, ◌≤◌, ◌==◌, Bool, true, false, if◌then◌else◌, List, [], ◌∷◌, ◌++◌, length, map, IfErr, Option, Some, None, Result, Err, Ok, refl}
use Rattle.std.specs.Io.KnownBytes.{Appends, Keeps}
use Rattle.std.proofs.{Common.{arith, inl, inr, sym, ap, subst, append_assoc, append-nil, ◌∙◌}, KnownBytes.{Appends-nil, Appends-trans}}
use Rattle.std.proofs.{lemmas.Bool.Decides.{nat_tests}, lemmas.List.{length-append}}
use Rattle.mc_boot.specs.{Outcome.{Report}, Life.{Event as Happening, IsDelivered, LifeLaw, Lives, LivesOn, Moment, boot, confirm, cut, mark, resting, store}, Plan.{power_on}}
use Rattle.mc_boot.specs.Torn.{EndsTorn, IsAllowed, LivesTorn, Loses, Tearing, TornEvent, TornLifeLaw, plain, roughly, tear}
use Rattle.mc_output.specs.{Text.{AppendsPrefix}, facts.Parting.{AreParts, Lacks}}
use Rattle.mc_start.specs.Start.{Started}
use Rattle.mc_life.specs.Script.{Named, Either, States, file_of, is_skipped, lines_of, onto, said, sayings, sayings_left, size_left}
use Rattle.mc_life.specs.Replay.{BreaksOff, FailsLife, FailsLine, Happens, HasNoTear, IsReplayed, LeadsTo, RefusesEvent, RefusesLine, StopsAt, Replays, WithFile, life_error, line_text}
use Rattle.mc_life.specs.{Device.{Goes, IsNew, IsTornTo, RefusesDownload, RefusesStore, RefusesWrite, Standing, moment}, declared.event.Event.{Event}, declared.life.LineError.{LineError}}
use Rattle.mc_flash.specs.{Flash.{Content}, Geometry.{Geometry, IsLayout}, declared.op.Op.{Op}}
use Rattle.mc_tear.specs.declared.reading.Reading.{Reading}
use Rattle.mc_trailer.specs.declared.tables.Rules.{Rules}
use Rattle.mc_trailer.specs.declared.tables.Profile.TheVariants as profiles
use Rattle.mc_life.proofs.Going.{lives_both}
use Rattle.mc_life.specs.declared.life.LineError.TheVariants as errors_of_line
use Rattle.mc_life.specs.declared.error.EventError.{EventError}
use Rattle.mc_life.specs.declared.error.EventError.TheVariants as errors
use Rattle.mc_life.specs.declared.event.Event.TheVariants as events

other_byte : (c : ℕ) → (c ≡ 10 → ⊥) → (c == 10) ≡ false
other_byte c other = grind (arith, nat_tests)

-- The first line, and the others.
first_line : (line after : List ℕ) → Lacks 10 line → lines_of (line ++ 10 ∷ after) ≡ line ∷ lines_of after
first_line [] after lacks = refl
first_line (c ∷ line) after lacks =
    ap (λ b. if b then [] ∷ lines_of (line ++ 10 ∷ after) else onto c (lines_of (line ++ 10 ∷ after))) (other_byte c lacks.0) ∙ ap (onto c) (first_line line after lacks.1)

first_of : (text line after : List ℕ) → AreParts 10 text line after → lines_of text ≡ line ∷ lines_of after
first_of text line after p = ap lines_of p.parts ∙ first_line line after p.lacks

last_line : (line : List ℕ) → Lacks 10 line → lines_of line ≡ line ∷ []
last_line [] lacks = refl
last_line (c ∷ line) lacks = ap (λ b. if b then [] ∷ lines_of line else onto c (lines_of line)) (other_byte c lacks.0) ∙ ap (onto c) (last_line line lacks.1)

-- What the first line says, and the others.
pub first_saying : (text line after : List ℕ) → AreParts 10 text line after → sayings text ≡ said line ∷ sayings after
first_saying text line after p = ap (map said) (first_of text line after p)

pub last_saying : (line : List ℕ) → Lacks 10 line → sayings line ≡ said line ∷ []
last_saying line lacks = ap (map said) (last_line line lacks)

-- ---- one line more

either : (b : Bool) (A B C D : Type 0) → (A → C) → (B → D) → Either b A B → Either b C D
either it one other third fourth f h x = grind arith

first_one : (b : Bool) (A B : Type 0) → b ≡ true → A → Either b A B
first_one it one other is a = grind arith

skip_more : (files : List Named) (number : ℕ) (d : Standing) (lines : List (List ℕ)) (line : List ℕ) (count : ℕ) (e : Standing) (text : List ℕ) → is_skipped line ≡ true
    → Replays files number d lines count e text → Replays files number d (lines ++ line ∷ []) count e text
skip_more files number d [] line count e text skipped replayed = first_one (is_skipped line) _ _ skipped replayed
skip_more files number d (l ∷ lines) line count e text skipped replayed =
    either (is_skipped l) _ _ _ _ (skip_more files number d lines line count e text skipped)
    (λ t. (t.0, t.1, t.2, t.3, t.4, skip_more files (number + 1) t.0 lines line t.3 e t.2 skipped t.5, t.6, t.7)) replayed

replay_more : (files : List Named) (number at : ℕ) (d : Standing) (lines : List (List ℕ)) (line : List ℕ) (count : ℕ) (e k : Standing) (o : Option Report) (text : List ℕ) → is_skipped line ≡ false
    → at ≡ number + count → Happens files line e k o → Replays files number d lines count e text
    → Replays files number d (lines ++ line ∷ []) (count + 1) k (text ++ line_text at line o k)
replay_more files number at d [] line count e k o text skipped here happens replayed = grind (arith, append-nil)
replay_more files number at d (l ∷ lines) line count e k o text skipped here happens replayed =
    either (is_skipped l) _ _ _ _ (replay_more files number at d lines line count e k o text skipped here happens)
    (λ t. (
      t.0,
      t.1,
      t.2 ++ line_text at line o k,
      t.3 + 1,
      t.4,
      replay_more files (number + 1) at t.0 lines line t.3 e k o t.2 skipped (omega (arith, here, t.6)) happens t.5,
      ap (λ n. n + 1) t.6,
      ap (λ (z : List ℕ). z ++ line_text at line o k) t.7 ∙ append_assoc (line_text number l t.1 t.0) t.2 (line_text at line o k),
    )) replayed

kept_out : (old now later : Option (List ℕ)) (text : List ℕ) → Appends old now text → Keeps now later → Appends old later text
kept_out it now later text out keeps = grind arith

-- ---- how far a script was replayed

pub record IsAt (files : List Named) (start : Started) (script : List ℕ) (old now : Option (List ℕ)) (rest : Option (List ℕ)) (number line : ℕ) (d : Standing) : Type 0 where
  pub new : Standing
  pub is_new : IsNew start new
  pub before : List (List ℕ)
  pub are : sayings script ≡ before ++ sayings_left rest
  pub count : ℕ
  pub text : List ℕ
  pub replayed : Replays files 1 new before count d text
  pub out : Appends old now text
  pub number_is : number ≡ count + 1
  pub line_is : line ≡ length before + 1
  pub at_most : line + size_left rest ≤ length script + 2
  pub fewer : number ≤ line

module _ (files : List Named) (start : Started) (script : List ℕ) (old : Option (List ℕ)) where
  pub begins : (d : Standing) → IsNew start d → IsAt files start script old old (Some script) 1 1 d
  begins d is = record {
    new = d;
    is_new = is;
    before = [];
    are = refl;
    count = 0;
    text = [];
    replayed = (refl, refl, refl);
    out = Appends-nil old;
    number_is = refl;
    line_is = refl;
    at_most = omega arith;
    fewer = omega arith;
  }

  module _ (now : Option (List ℕ)) (text : List ℕ) (number line : ℕ) (d : Standing) (at : IsAt files start script old now (Some text) number line d)
      (words : List ℕ) (after : Option (List ℕ)) (lines : sayings text ≡ words ∷ sayings_left after) (less : size_left after ≤ length text) where
    are_now : sayings script ≡ at.before ++ (words ∷ sayings_left after)
    are_now = at.are ∙ ap (λ (z : List (List ℕ)). at.before ++ z) lines

    are_left : sayings script ≡ (at.before ++ words ∷ []) ++ sayings_left after
    are_left = are_now ∙ sym (append_assoc at.before (words ∷ []) (sayings_left after))

    longer : line + 1 ≡ length (at.before ++ words ∷ []) + 1
    longer = let n = length-append at.before (words ∷ []) in omega (arith, n, at.line_is)

    pub skips : is_skipped words ≡ true → IsAt files start script old now after number (line + 1) d
    skips skipped = record {
      new = at.new;
      is_new = at.is_new;
      before = at.before ++ words ∷ [];
      are = are_left;
      count = at.count;
      text = at.text;
      replayed = skip_more files 1 at.new at.before words at.count d at.text skipped at.replayed;
      out = at.out;
      number_is = at.number_is;
      line_is = longer;
      at_most = omega (arith, at.at_most, less);
      fewer = omega (arith, at.fewer);
    }

    pub happened : is_skipped words ≡ false → (e : Standing) (o : Option Report) (later : Option (List ℕ)) → Happens files words d e o → Appends now later (line_text number words o e)
        → IsAt files start script old later after (number + 1) (line + 1) e
    happened skipped e o later happens appends = record {
      new = at.new;
      is_new = at.is_new;
      before = at.before ++ words ∷ [];
      are = are_left;
      count = at.count + 1;
      text = at.text ++ line_text number words o e;
      replayed = replay_more files 1 number at.new at.before words at.count d e o at.text skipped (omega (arith, at.number_is)) happens at.replayed;
      out = Appends-trans old now later at.text (line_text number words o e) at.out appends;
      number_is = ap (λ n. n + 1) at.number_is;
      line_is = longer;
      at_most = omega (arith, at.at_most, less);
      fewer = omega (arith, at.fewer);
    }

    pub stops : is_skipped words ≡ false → (why : EventError) (later : Option (List ℕ)) → RefusesLine files words d why → Keeps now later → StopsAt files start script old later why number line
    stops skipped why later refused keeps = record {
      count = at.count;
      left = d;
      text = at.text;
      here = words;
      beyond = sayings_left after;
      replayed = record { new = at.new; is_new = at.is_new; before = at.before; are = are_now; replayed = at.replayed };
      number_is = at.number_is;
      line_is = at.line_is;
      not_skipped = skipped;
      refused = refused;
      out = kept_out old now later at.text at.out keeps;
    }

    pub breaks : (later : Option (List ℕ)) (e : Standing) (o : Option Report) → Happens files words d e o → AppendsPrefix now later (line_text number words o e)
        → BreaksOff files start script old later
    breaks later e o happens prefix = grind arith

  pub ends : (now : Option (List ℕ)) (number line : ℕ) (d : Standing) → IsAt files start script old now None number line d → IsReplayed files start script old now d
  ends now number line d at = grind arith

-- A line that is not replayed.
pub fails : (files : List Named) (start : Started) (script : List ℕ) (old now later : Option (List ℕ)) (text : List ℕ) (number line : ℕ) (d : Standing)
    → IsAt files start script old now (Some text) number line d → (words : List ℕ) (after : Option (List ℕ)) → sayings text ≡ words ∷ sayings_left after → size_left after ≤ length text
    → is_skipped words ≡ false → (e : LineError) → FailsLine files number words d now later e → FailsLife files start script old later (life_error e number line)
fails files start script old now later text number line d at words after lines less skipped (errors_of_line.Event errors.Memory) failed =
    inr (number, line, stops files start script old now text number line d at words after lines less skipped errors.Memory later failed.0 failed.1)
fails files start script old now later text number line d at words after lines less skipped errors_of_line.Write failed =
    breaks files start script old now text number line d at words after lines less later failed.0 failed.1 failed.2 failed.3
fails files start script old now later text number line d at words after lines less skipped (errors_of_line.Event why) failed =
    stops files start script old now text number line d at words after lines less skipped why later failed.0 failed.1

-- ---- the laws of lives

-- What the lines replay is one life, by a law whose events and moments these are.
module _ (E : Type 0) (Life : Rules → Geometry → Moment → List E → Moment → Type 0)
    (both : (r : Rules) (g : Geometry) (m k n : Moment) (events more : List E) → Life r g m events k → Life r g k more n → Life r g m (events ++ more) n) where
  record IsLife (d e : Standing) : Type 0 where
    events : List E
    lives : (rested : Content) → (later : Content) × Life d.rules d.seen.geometry (moment d rested) events (moment e later)

  life_first : (d k e : Standing) (events : List E) → ((rested : Content) → (later : Content) × Life d.rules d.seen.geometry (moment d rested) events (moment k later))
      → k.rules ≡ d.rules → k.seen.geometry ≡ d.seen.geometry → IsLife k e → IsLife d e
  life_first d k e events lives rules geometry life = record {
    events = events ++ life.events;
    lives = λ rested.
        let a = lives rested in
        let b = life.lives a.0 in
        let P : Rules → Geometry → Type 0 = λ r g. Life r g (moment k a.0) life.events (moment e b.0) in (
          b.0,
          both d.rules d.seen.geometry (moment d rested) (moment k a.0) (moment e b.0) events life.events a.1 (subst (λ g. P d.rules g) geometry (subst (λ r. P r k.seen.geometry) rules b.1)),
        );
  }

  -- It begins with the start.
  from_start : (start : Started) (d e : Standing) → IsNew start d → (life : IsLife d e)
      → (later : Content) × Life start.rules start.geometry (resting start.content false) life.events (moment e later)
  from_start start d e is life =
      let l = life.lives start.content in
      let begun : moment d start.content ≡ resting start.content false =
      ap (λ (s : Content). record { content = s; rested = start.content; runs = d.runs }) is.content ∙ ap (resting start.content) is.runs in (
        l.0,
        subst (λ (m : Moment). Life start.rules start.geometry m life.events (moment e l.0)) begun
            (subst (λ (g : Geometry). Life start.rules g (moment d start.content) life.events (moment e l.0)) is.geometry
            (subst (λ (r : Rules). Life r d.seen.geometry (moment d start.content) life.events (moment e l.0)) is.rules l.1)),
      )

by_either : (b : Bool) (A B C : Type 0) → (A → C) → (B → C) → Either b A B → C
by_either it one other third f h x = grind arith

-- An event is one or some of the law, or power is lost within an operation.
abbrev AsPlain : Standing → Standing → Type 0
AsPlain d e = (events : List Happening) × (ops : List Op) × Goes d events ops e

abbrev AsTear : Event → Standing → Standing → Type 0
AsTear event d e = (count : ℕ) × (r : Reading) × (event ≡ events.Tear count r) × IsTornTo d count r e

as_plain : (d e : Standing) (happened : List Happening) (ops : List Op) → Goes d happened ops e → (event : Event) → AsPlain d e ⊎ AsTear event d e
as_plain d e happened ops goes event = inl (happened, ops, goes)

either_way : (files : List Named) (event : Event) (d e : Standing) → LeadsTo files event d e → AsPlain d e ⊎ AsTear event d e
either_way files (events.Download file count) d e goes = as_plain d e _ _ goes (events.Download file count)
either_way files (events.Request request) d e goes = as_plain d e _ _ goes (events.Request request)
either_way files (events.Store file) d e goes = as_plain d e _ _ goes (events.Store file)
either_way files (events.Write file from count) d e goes = as_plain d e _ _ goes (events.Write file from count)
either_way files (events.Erase sector) d e goes = as_plain d e _ _ goes (events.Erase sector)
either_way files events.Confirm d e goes = as_plain d e _ _ goes events.Confirm
either_way files (events.Mark bytes) d e goes = as_plain d e _ _ goes (events.Mark bytes)
either_way files (events.Boot cuts) d e goes = as_plain d e _ _ goes (events.Boot cuts)
either_way files (events.Cut count) d e goes = as_plain d e _ _ goes (events.Cut count)
either_way files (events.Tear count r) d e torn = inr (count, r, refl, torn)

-- No operation is torn.
abbrev Plain : Standing → Standing → Type 0
Plain = IsLife Happening Lives lives_both

lives_step : (files : List Named) (event : Event) (d k e : Standing) → LeadsTo files event d k → ((count : ℕ) (r : Reading) → event ≡ events.Tear count r → ⊥) → Plain k e → Plain d e
lives_step files event d k e leads none rest = elim (either_way files event d k leads) [
  | inl p ↦ life_first Happening Lives lives_both d k e p.0 p.2.lives p.2.rules p.2.geometry rest
  | inr torn ↦ absurd (none torn.0 torn.1 torn.2)
]

replay_lives : (files : List Named) (number : ℕ) (d : Standing) (lines : List (List ℕ)) (count : ℕ) (e : Standing) (text : List ℕ) → HasNoTear lines
    → Replays files number d lines count e text → Plain d e
replay_lives files number d [] count e text none replayed = subst (λ x. Plain d x) (sym replayed.0) (record { events = []; lives = λ rested. (rested, refl) })
replay_lives files number d (l ∷ lines) count e text none replayed =
    by_either (is_skipped l) _ _ (Plain d e) (replay_lives files number d lines count e text none.1)
    (λ t. lives_step files t.4.event d t.0 e t.4.leads (λ n r is. none.0 n r (subst (States l) is t.4.states)) (replay_lives files (number + 1) t.0 lines t.3 e t.2 none.1 t.5)) replayed

pub lives_on : (files : List Named) (start : Started) (script : List ℕ) (old new : Option (List ℕ)) (e : Standing) → IsReplayed files start script old new e → ((r : Rules) → LifeLaw r)
    → IsLayout start.geometry
    → IsDelivered start.geometry start.content → HasNoTear (sayings script) → (rested z : Content) × LivesOn start.rules start.geometry (moment e rested) z
lives_on files start script old new e replayed law layout delivered none =
    let up = replayed.replayed in
    let before : HasNoTear up.before = subst HasNoTear (up.are ∙ append-nil up.before) none in
    let life = replay_lives files 1 up.new up.before replayed.count e replayed.text before up.replayed in
    let l = from_start Happening Lives lives_both start up.new e up.is_new life in
    let on = law start.rules start.geometry start.content false life.events (moment e l.0) layout delivered l.1 in
    (l.0, on.0, on.1)

-- Some are torn.
torn_both : (r : Rules) (g : Geometry) (m k n : Moment) (events more : List TornEvent) → LivesTorn roughly r g m events k → LivesTorn roughly r g k more n
    → LivesTorn roughly r g m (events ++ more) n
torn_both r g m k n [] more first later = subst (λ (x : Moment). LivesTorn roughly r g x more n) first later
torn_both r g m k n (e ∷ events) more (j, leads, rest) later = (j, leads, torn_both r g j k n events more rest later)

abbrev Torn : Standing → Standing → Type 0
Torn = IsLife TornEvent (LivesTorn roughly) torn_both

-- By the third profile a running image may store wherever the device stands.
allowed : (r : Rules) (g : Geometry) (s : Content) (e : Happening) → r.profile ≡ profiles.Three → IsAllowed r g s e
allowed r g s (cut count) three = tt
allowed r g s boot three = tt
allowed r g s (store bytes) three = inl three
allowed r g s confirm three = tt
allowed r g s (mark bytes) three = tt

all_plain : (r : Rules) (g : Geometry) (m n : Moment) (events : List Happening) → r.profile ≡ profiles.Three → Lives r g m events n → LivesTorn roughly r g m (map plain events) n
all_plain r g m n [] three lives = lives
all_plain r g m n (e ∷ events) three (k, leads, rest) = (k, (allowed r g m.content e three, leads), all_plain r g k n events three rest)

module _ (d e : Standing) (count : ℕ) (r : Reading) (torn : IsTornTo d count r e) (rested : Content) where
  loses : Loses roughly (power_on d.rules d.seen.geometry d.seen.content) count e.seen.content
  loses =
      let l = torn.loses in
      record { op = l.op; before = l.before; next = l.comes.next; reached = l.comes.reached; leaves = inr l.is_torn }

  one_tear : LivesTorn roughly d.rules d.seen.geometry (moment d rested) (tear count e.seen.content ∷ []) (moment e rested)
  one_tear = (moment e rested, (loses, ap (λ (b : Bool). record { content = e.seen.content; rested = rested; runs = b }) torn.off), refl)

torn_step : (files : List Named) (event : Event) (d k e : Standing) → LeadsTo files event d k → d.rules.profile ≡ profiles.Three → (k.rules ≡ d.rules → Torn k e) → Torn d e
torn_step files event d k e leads three rest = elim (either_way files event d k leads) [
  | inl p ↦ life_first TornEvent (LivesTorn roughly) torn_both d k e (map plain p.0)
      (λ rested. let a = p.2.lives rested in (a.0, all_plain d.rules d.seen.geometry (moment d rested) (moment k a.0) p.0 three a.1)) p.2.rules p.2.geometry (rest p.2.rules)
  | inr torn ↦ life_first TornEvent (LivesTorn roughly) torn_both d k e (tear torn.0 k.seen.content ∷ [])
      (λ rested. (rested, one_tear d k torn.0 torn.1 torn.3 rested)) torn.3.rules torn.3.geometry (rest torn.3.rules)
]

replay_torn : (files : List Named) (number : ℕ) (d : Standing) (lines : List (List ℕ)) (count : ℕ) (e : Standing) (text : List ℕ) → d.rules.profile ≡ profiles.Three
    → Replays files number d lines count e text → Torn d e
replay_torn files number d [] count e text three replayed = subst (λ x. Torn d x) (sym replayed.0) (record { events = []; lives = λ rested. (rested, refl) })
replay_torn files number d (l ∷ lines) count e text three replayed =
    by_either (is_skipped l) _ _ (Torn d e) (replay_torn files number d lines count e text three)
    (λ t. torn_step files t.4.event d t.0 e t.4.leads three (λ rules.
    replay_torn files (number + 1) t.0 lines t.3 e t.2 (ap (λ (r : Rules). r.profile) rules ∙ three) t.5)) replayed

pub torn_on : (files : List Named) (start : Started) (script : List ℕ) (old new : Option (List ℕ)) (e : Standing) → IsReplayed files start script old new e
    → ((how : Tearing) (r : Rules) → TornLifeLaw how r) → IsLayout start.geometry
    → IsDelivered start.geometry start.content → start.rules.profile ≡ profiles.Three → (rested z : Content) × EndsTorn roughly start.rules start.geometry rested e.seen.content z
torn_on files start script old new e replayed law layout delivered three =
    let up = replayed.replayed in
    let profile = ap (λ (r : Rules). r.profile) up.is_new.rules ∙ three in
    let life = replay_torn files 1 up.new up.before replayed.count e replayed.text profile up.replayed in
    let l = from_start TornEvent (LivesTorn roughly) torn_both start up.new e up.is_new life in
    let on = law roughly start.rules start.geometry start.content false life.events (moment e l.0) layout delivered l.1 in
    (l.0, on.0, on.1)

-- ---- a line whose event can't happen

file_never : (o : Option (List ℕ)) (P : List ℕ → EventError → Type 0) → ((bytes : List ℕ) → P bytes errors.Syntax → ⊥) → WithFile o P errors.Syntax → ⊥
file_never None P never refused = refused
file_never (Some bytes) P never refused = never bytes refused

-- No event is refused as none.
never_syntax : (files : List Named) (d : Standing) (e : Event) → RefusesEvent files d e errors.Syntax → ⊥
never_syntax files d (events.Download file count) refused = file_never (file_of files file.now) (λ bytes. RefusesDownload d bytes count) (λ bytes x. x) refused
never_syntax files d (events.Request request) refused = refused
never_syntax files d (events.Store file) refused = file_never (file_of files file.now) (RefusesStore d) (λ bytes x. x) refused
never_syntax files d (events.Write file from count) refused = file_never (file_of files file.now) (λ bytes. RefusesWrite d bytes from count) (λ bytes x. x) refused
never_syntax files d (events.Erase sector) refused = refused
never_syntax files d events.Confirm refused = refused
never_syntax files d (events.Mark bytes) refused = refused
never_syntax files d (events.Boot cuts) refused = refused
never_syntax files d (events.Cut count) refused = refused
never_syntax files d (events.Tear count reading) refused = refused

event_refused : (files : List Named) (line : List ℕ) (d : Standing) (e : Event) → States line e → (why : EventError) → RefusesEvent files d e why → RefusesLine files line d why
event_refused files line d e states errors.Syntax refused = absurd (never_syntax files d e refused)
event_refused files line d e states why refused = (e, states, refused)

pub line_refused : {A : Type 0} (files : List Named) (line : List ℕ) (d : Standing) (e : Event) (r : Result A EventError) → States line e → IfErr r (RefusesEvent files d e)
    → IfErr r (RefusesLine files line d)
line_refused files line d e (Ok v) states refused = tt
line_refused files line d e (Err why) states refused = event_refused files line d e states why refused
