-- The pieces of a head, joined.
use Rattle.std.proofs.Common.{◌≡◌, ℕ, Bool, List, [], ◌++◌, length, codes, decimal, unwrap_or, append_assoc}
use Rattle.http.specs.StatusCode.{reason_phrase}
use Rattle.wire_replies.specs.declared.reply.Reply.{Reply}
use Rattle.wire_replies.specs.ReplyBytes.{crlf, allow_line, media_type, close_line, reply_bytes}

-- the pieces in the order in which they are written
abbrev pub pieces : (status phrase allow kind count close : List ℕ) → List ℕ
pieces status phrase allow kind count close =
    codes "HTTP/1.1 " ++ (status ++ (codes " " ++ (phrase ++ (codes "\r\n" ++ (allow ++ (codes "Content-Type: " ++ (kind
    ++ (codes "\r\nContent-Length: " ++ (count ++ (codes "\r\n" ++ (close ++ codes "\r\n")))))))))))

joined : (status phrase allow kind count close body : List ℕ) → pieces status phrase allow kind count close ++ body
    ≡ (codes "HTTP/1.1 " ++ (status ++ (codes " " ++ (phrase ++ crlf)))) ++ (allow ++ ((codes "Content-Type: " ++ (kind ++ crlf))
    ++ ((codes "Content-Length: " ++ (count ++ crlf)) ++ (close ++ (crlf ++ body)))))
joined status phrase allow kind count close body = simp append_assoc

pub head_and_body : (reply : Reply) (closes : Bool) (bytes phrase allow kind close : List ℕ) (count : ℕ)
    → bytes ≡ pieces (decimal reply.status) phrase allow kind (decimal count) close
    → phrase ≡ unwrap_or (reason_phrase reply.status) [] → allow ≡ allow_line reply.allow → kind ≡ media_type reply.html
    → count ≡ length reply.body.items → close ≡ close_line closes → bytes ++ reply.body.items ≡ reply_bytes reply closes
head_and_body reply closes bytes phrase allow kind close count e p a k n c =
    rw (e, p, a, k, n, c) (joined (decimal reply.status) (unwrap_or (reason_phrase reply.status) []) (allow_line reply.allow) (media_type reply.html)
    (decimal (length reply.body.items)) (close_line closes) reply.body.items)
