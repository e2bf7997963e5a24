use Rattle.std.proofs.Common.{[], codes, map, refl, string_bytes, ◌++◌, ◌∷◌}
use Rattle.std.proofs.lemmas.{List.{append_assoc}, Str.{IsUtf8-string_bytes}}
use Rattle.mc_options.proofs.layout_file.add_file.Goals as goal

pub returns-clause-added : goal.returns-clause-added
returns-clause-added g c =
    let added = c.in_ok-add_settings.ensures.added in
    let pushed = c.in_ok-push.ensures.added in (
      added.0 ++ (codes "--layout=" ++ c.args.path.now) ∷ [],
      record { bytes = _; read = c.in_ok-text.ensures.read; text = IsUtf8-string_bytes c.in_ok-text.text; settings = added.0; are = rw c.as_str.ensures.value at added.1; words_are = refl },
      rw (pushed, added.2, c.in_ok-file_word.ensures.word) (append_assoc (map string_bytes c.args.words.now.items) added.0 _),
    )
